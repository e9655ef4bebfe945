-- After k turns the vector is the definition's after k turns. Assumes nothing.
use Rattle.std.proofs.Common.{◌≡◌}
use Rattle.doubles.specs.Loop.{run}
use Rattle.sparse.specs.Scattered.{sv, take_turn}
use Rattle.sparse.proofs.take_off.Given as goal

abbrev pub invariant-loop-k : goal.invariant-loop-k
invariant-loop-k l =
    sv l.values l.marks l.list l.n ≡ run (take_turn l.x l.rows l.coeffs) l.k
    (sv l.initial.values l.initial.marks l.initial.list l.count)
