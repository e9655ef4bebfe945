-- After k turns the vector is the definition's after k turns. Assumes nothing.
use Rattle.std.proofs.Common.{◌≡◌}
use Rattle.doubles.specs.Loop.{run}
use Rattle.sparse.specs.Scattered.{sv, put_turn}
use Rattle.sparse.proofs.load.Given as goal

abbrev pub invariant-loop-k : goal.invariant-loop-k
invariant-loop-k l =
    sv l.values l.marks l.list l.c ≡ run (put_turn l.at l.xs) l.k
    (sv l.initial.values l.initial.marks l.initial.list l.count)
