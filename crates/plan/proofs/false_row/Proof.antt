-- `plan::false_row` meets its contract. Assumes nothing.
use borrow.Author.Rules.{rules}
use Rattle.plan.proofs.false_row.Statement.{statement}
use Rattle.plan.proofs.false_row.Tie as tie

mul-result : tie.Need-offset_bounds-starts-i
mul-result c = search rules

shared-slice-read-result : tie.Need-bounds-starts-i
shared-slice-read-result c = search rules

add-result : tie.Need-overflow_add-result
add-result c = search rules

mul-result-2 : tie.Need-offset_bounds-starts-i-2
mul-result-2 c = search rules

shared-slice-read-result-2 : tie.Need-bounds-starts-i-2
shared-slice-read-result-2 c = search rules

shared-slice-read-zero-holds : tie.Need-bounds-ops-i
shared-slice-read-zero-holds c = search rules

mul-zero-holds : tie.Need-offset_bounds-rhs-i
mul-zero-holds c = search rules

shared-slice-read-zero-holds-2 : tie.Need-bounds-rhs-i
shared-slice-read-zero-holds-2 c = search rules

zero-holds-requires : tie.Need-zero_holds-requires
zero-holds-requires c κs = search rules

returns : tie.Need-returns
returns c = rw c.zero_holds.ensures

pub false_row_spec : {M : Type 1} → statement M
false_row_spec =
    tie.close
    (tie.spec
    mul-result
    shared-slice-read-result
    add-result
    mul-result-2
    shared-slice-read-result-2
    shared-slice-read-zero-holds
    mul-zero-holds
    shared-slice-read-zero-holds-2
    zero-holds-requires
    returns)
