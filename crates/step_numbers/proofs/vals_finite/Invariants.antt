-- Every new number before k is finite. Assumes nothing.
use mathlib.Core.Path.{◌≡◌}
use mathlib.Core.Bool.{true}
use Rattle.doubles.specs.Num.{finite}
use Rattle.doubles.specs.Loop.{all}
use Rattle.doubles.specs.Lists.{◌!◌, ◌#◌}
use Rattle.step_numbers.specs.New.{val_by}
use Rattle.step_numbers.proofs.vals_finite.Given as goal

abbrev pub invariant-loop-r : goal.invariant-loop-r
invariant-loop-r l = all l.r-index (λ i. finite (val_by l.row l.value l.diff (l.list # i) (l.basic_var_vals ! (l.list # i)) (l.values ! (l.list # i)))) ≡ true
