-- `sheet_change_totals::row_at` meets its contract. Assumes nothing.
use borrow.Author.Rules.{rules}
use Rattle.sheet_change_totals.specs.Parts.{row_at}
use borrow.Author.Tests.{lt-ltb, le-ltb}
use Rattle.sheet_change_totals.proofs.row_at.Statement.{statement}
use Rattle.sheet_change_totals.proofs.row_at.Tie as tie

mul-t8 : tie.Need-offset_bounds-rhs-i
mul-t8 c = search rules

shared-slice-copy-out-t10 : tie.Need-bounds-rhs-i
shared-slice-copy-out-t10 c = search rules

shared-slice-read-t12 : tie.Need-bounds-ops-i
shared-slice-read-t12 c = search rules

mul-t13 : tie.Need-offset_bounds-r-i
mul-t13 c = search rules

shared-slice-copy-out-t15 : tie.Need-bounds-r-i
shared-slice-copy-out-t15 c = search rules

mul-t16 : tie.Need-offset_bounds-mults-i
mul-t16 c = search rules

shared-slice-copy-out-t18 : tie.Need-bounds-mults-i
shared-slice-copy-out-t18 c = search rules

returns : tie.Need-returns-then-i-rows
unfolding row_at
returns c = let s : tie.Start = search in let t : tie.Then-i-rows = search in rw (lt-ltb s.args.i s.args.rows t.if-i-rows.true) (search rules)

returns-2 : tie.Need-returns
unfolding row_at
returns-2 c = let s = c.before in rw (le-ltb s.args.i s.args.rows c.if-i-rows.false)

pub row_at_spec : {M : Type 1} → statement M
row_at_spec =
    tie.close
    (tie.spec
    mul-t8
    shared-slice-copy-out-t10
    shared-slice-read-t12
    mul-t13
    shared-slice-copy-out-t15
    mul-t16
    shared-slice-copy-out-t18
    returns
    returns-2)
