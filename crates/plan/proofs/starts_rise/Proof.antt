-- `plan::starts_rise` meets its contract. Assumes nothing.
use Rattle.rules.specs.Refusals.{starts_rise}
use borrow.Author.Rules.{rules}
use Rattle.plan.proofs.starts_rise.Statement.{statement}
use Rattle.plan.proofs.starts_rise.Tie as tie

shared-slice-read-result : tie.Need-bounds-starts-0
shared-slice-read-result c = search rules

none-falls-requires : tie.Need-none_falls-requires
none-falls-requires c κs = search rules

mul-result : tie.Need-offset_bounds-starts-rows
mul-result c = search rules

shared-slice-read-result-2 : tie.Need-bounds-starts-rows
shared-slice-read-result-2 c = search rules

returns : tie.Need-returns
unfolding starts_rise
returns c = let d : tie.After-none_falls = search in
    rw d.none_falls.ensures

pub starts_rise_spec : {M : Type 1} → statement M
starts_rise_spec =
    tie.close
    (tie.spec
    shared-slice-read-result
    none-falls-requires
    mul-result
    shared-slice-read-result-2
    returns)
