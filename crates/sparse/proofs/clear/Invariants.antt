-- After k turns the vector is the definition's after k turns. Assumes nothing.
use Rattle.std.proofs.Common.{◌≡◌}
use Rattle.doubles.specs.Loop.{run}
use Rattle.sparse.specs.Scattered.{sv, clear_turn}
use Rattle.sparse.proofs.clear.Given as goal

abbrev pub invariant-loop-i : goal.invariant-loop-i
invariant-loop-i l =
    sv l.values l.marks l.list l.count ≡ run (clear_turn l.list) l.i-index
    (sv l.initial.values l.initial.marks l.list l.count)
