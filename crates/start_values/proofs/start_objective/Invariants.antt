-- The sum is the definition's after j turns. Assumes nothing.
use mathlib.Core.Path.{◌≡◌}
use mathlib.Core.List.{[]}
use Rattle.doubles.specs.Num.{f0}
use Rattle.doubles.specs.Loop.{run}
use Rattle.rules.specs.Start.{objective_turn}
use Rattle.start_values.specs.Lent.{costed}
use Rattle.start_values.proofs.start_objective.Given as goal

abbrev pub invariant-loop-j : goal.invariant-loop-j
invariant-loop-j l = l.sum ≡ run (objective_turn (costed l.n l.costs [] []) l.xs) l.j f0
