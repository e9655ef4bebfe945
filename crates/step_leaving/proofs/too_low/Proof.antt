-- `step_leaving::too_low`: the definition's own test. Assumes nothing.
use mathlib.Core.Path.{refl}
use Rattle.rules.specs.DualRow.{too_low}
use Rattle.step_leaving.proofs.too_low.Statement.{statement}
use Rattle.step_leaving.proofs.too_low.Tie as tie

returns : tie.Need-returns
unfolding too_low
returns c = refl

pub too_low_spec : {M : Type 1} → statement M
too_low_spec = tie.close (tie.spec returns)
