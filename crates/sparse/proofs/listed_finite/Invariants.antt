-- Every listed value before the k-th is finite. Assumes nothing.
use Rattle.std.proofs.Common.{◌≡◌, [], true}
use Rattle.doubles.specs.Num.{finite}
use Rattle.doubles.specs.Loop.{all}
use Rattle.sparse.specs.Scattered.{sv, listed_val}
use Rattle.sparse.proofs.listed_finite.Given as goal

abbrev pub invariant-loop-i : goal.invariant-loop-i
invariant-loop-i l = all l.i-index (λ j. finite (listed_val (sv l.values [] l.list l.count) j)) ≡ true
