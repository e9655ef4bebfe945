-- `step_ratio::towards_max`: the definition's own test. Assumes nothing.
use mathlib.Core.Path.{refl}
use Rattle.rules.specs.Ratio.{towards_max}
use Rattle.step_ratio.proofs.towards_max.Statement.{statement}
use Rattle.step_ratio.proofs.towards_max.Tie as tie

returns : tie.Need-returns
unfolding towards_max
returns c = refl

pub towards_max_spec : {M : Type 1} → statement M
towards_max_spec = tie.close (tie.spec returns)
