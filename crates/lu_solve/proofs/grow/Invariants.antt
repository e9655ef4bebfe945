-- After k turns the list is the definition's after k turns. Assumes nothing.
use Rattle.std.proofs.Common.{◌≡◌}
use Rattle.doubles.specs.Loop.{run}
use Rattle.sparse.specs.Scattered.{pat}
use Rattle.lu_solve.specs.Solve.{grow_turn}
use Rattle.lu_solve.proofs.grow.Given as goal

abbrev pub invariant-loop-i : goal.invariant-loop-i
invariant-loop-i l =
    pat l.marks l.list l.n ≡ run (grow_turn l.done) l.i-index (pat l.initial.marks l.initial.list l.initial.n)
