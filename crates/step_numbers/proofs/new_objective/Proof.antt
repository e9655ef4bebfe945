-- `step_numbers::new_objective` meets its contract: as it stands. Assumes nothing.
use mathlib.Core.Path.{refl}
use Rattle.rules.specs.Pivot.{new_objective}
use Rattle.step_numbers.proofs.new_objective.Statement.{statement}
use Rattle.step_numbers.proofs.new_objective.Tie as tie

returns : tie.Need-returns
unfolding new_objective
returns c = refl

pub new_objective_spec : {M : Type 1} → statement M
new_objective_spec = tie.close (tie.spec returns)
