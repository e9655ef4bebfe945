-- `step_leaving::outside`: the definition's own test. Assumes nothing.
use borrow.Author.Rules.{rules}
use Rattle.rules.specs.DualRow.{outside}
use Rattle.step_leaving.proofs.outside.Statement.{statement}
use Rattle.step_leaving.proofs.outside.Tie as tie

too-low-requires : tie.Need-too_low-requires
too-low-requires c κs = search rules

returns : tie.Need-returns
unfolding outside
returns c = rw c.too_low.ensures

pub outside_spec : {M : Type 1} → statement M
outside_spec = tie.close (tie.spec too-low-requires returns)
