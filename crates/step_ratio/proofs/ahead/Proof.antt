-- `step_ratio::ahead`: the bound on the side of the row's move. Assumes nothing.
use Rattle.step_ratio.proofs.Passes.{ahead_is}
use borrow.Author.Rules.{rules}
use Rattle.step_ratio.proofs.ahead.Statement.{statement}
use Rattle.step_ratio.proofs.ahead.Tie as tie

towards-max-requires : tie.Need-towards_max-requires
towards-max-requires c κs = search rules

mul-side : tie.Need-offset_bounds-basic_vars-r
mul-side c = search rules

shared-slice-read-side : tie.Need-bounds-basic_vars-r
shared-slice-read-side c = search rules

side-requires : tie.Need-side-requires
side-requires c κs = search rules

returns : tie.Need-returns
returns c = ahead_is _ _ _ _ _ _ _ c.towards_max.ensures c.side.ensures

pub ahead_spec : {M : Type 1} → statement M
ahead_spec =
    tie.close (tie.spec towards-max-requires mul-side shared-slice-read-side side-requires returns)
