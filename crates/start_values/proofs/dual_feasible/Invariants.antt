-- The j columns before passed. Assumes nothing.
use mathlib.Core.Path.{◌≡◌}
use mathlib.Core.Bool.{true}
use Rattle.doubles.specs.Loop.{all}
use Rattle.doubles.specs.Lists.{◌!◌}
use Rattle.rules.specs.Start.{start_dual}
use Rattle.start_values.proofs.dual_feasible.Given as goal

abbrev pub invariant-loop-j : goal.invariant-loop-j
invariant-loop-j l = all l.j (λ i. start_dual (l.costs ! i) (l.lowers ! i) (l.uppers ! i)) ≡ true
