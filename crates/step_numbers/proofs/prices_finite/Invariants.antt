-- Every new number before k is finite. Assumes nothing.
use mathlib.Core.Path.{◌≡◌}
use mathlib.Core.Bool.{true}
use Rattle.doubles.specs.Num.{finite}
use Rattle.doubles.specs.Loop.{all}
use Rattle.doubles.specs.Lists.{◌!◌, ◌#◌}
use Rattle.step_numbers.specs.New.{price_by}
use Rattle.step_numbers.proofs.prices_finite.Given as goal

abbrev pub invariant-loop-j : goal.invariant-loop-j
invariant-loop-j l = all l.j-index (λ i. finite (price_by l.col l.pivot_obj (l.list # i) (l.prices ! (l.list # i)) (l.values ! (l.list # i)))) ≡ true
