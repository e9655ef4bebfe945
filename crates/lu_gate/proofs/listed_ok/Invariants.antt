-- Every listed number before the index is finite. Assumes nothing.
use Rattle.std.proofs.Common.{◌≡◌, true}
use Rattle.doubles.specs.Loop.{all}
use Rattle.lu_gate.specs.Gate.{held_at}
use Rattle.lu_gate.proofs.listed_ok.Given as goal

abbrev pub invariant-loop-place : goal.invariant-loop-place
invariant-loop-place l = all l.place-index (held_at l.size l.list l.values) ≡ true
