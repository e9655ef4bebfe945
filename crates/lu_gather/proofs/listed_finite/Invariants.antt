-- Every listed value before the index is finite. Assumes nothing.
use Rattle.std.proofs.Common.{◌≡◌, true}
use Rattle.doubles.specs.Num.{finite}
use Rattle.doubles.specs.Loop.{all}
use Rattle.doubles.specs.Lists.{◌!◌, ◌#◌}
use Rattle.lu_gather.proofs.listed_finite.Given as goal

abbrev pub invariant-loop-i : goal.invariant-loop-i
invariant-loop-i l = all l.i-index (λ j. finite (l.values ! (l.list # j))) ≡ true
