-- Every number before the index is finite. Assumes nothing.
use Rattle.std.proofs.Common.{◌≡◌, true}
use Rattle.doubles.specs.Loop.{all}
use Rattle.lu_gate.specs.Gate.{finite_at}
use Rattle.lu_gate.proofs.all_finite.Given as goal

abbrev pub invariant-loop-x : goal.invariant-loop-x
invariant-loop-x l = all l.x-index (finite_at l.xs) ≡ true
