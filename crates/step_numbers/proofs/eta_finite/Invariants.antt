-- Every new number before k is finite. Assumes nothing.
use mathlib.Core.Path.{◌≡◌}
use mathlib.Core.Bool.{true}
use Rattle.doubles.specs.Num.{finite}
use Rattle.doubles.specs.Loop.{all}
use Rattle.doubles.specs.Lists.{◌!◌, ◌#◌}
use Rattle.rules.specs.Basis.{eta_entry}
use Rattle.step_numbers.proofs.eta_finite.Given as goal

abbrev pub invariant-loop-r : goal.invariant-loop-r
invariant-loop-r l = all l.r-index (λ i. finite (eta_entry l.row l.pivot (l.list # i) (l.values ! (l.list # i)))) ≡ true
