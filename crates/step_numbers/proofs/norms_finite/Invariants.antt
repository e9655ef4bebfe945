-- Every new number before k is finite. Assumes nothing.
use mathlib.Core.Path.{◌≡◌}
use mathlib.Core.Bool.{true}
use Rattle.doubles.specs.Num.{finite}
use Rattle.doubles.specs.Loop.{all}
use Rattle.doubles.specs.Lists.{◌!◌, ◌#◌}
use Rattle.step_numbers.specs.New.{norm_by}
use Rattle.step_numbers.proofs.norms_finite.Given as goal

abbrev pub invariant-loop-j : goal.invariant-loop-j
invariant-loop-j l = all l.j-index (λ i. finite (norm_by l.col l.sq l.pivot l.pivot_sq (l.list # i) (l.norms ! (l.list # i)) (l.values ! (l.list # i)) (l.helper ! (l.list # i)))) ≡ true
