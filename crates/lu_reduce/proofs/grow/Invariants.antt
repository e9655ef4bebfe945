-- After k turns the list is the definition's after k turns. Assumes nothing.
use Rattle.std.proofs.Common.{◌≡◌}
use Rattle.doubles.specs.Loop.{run}
use Rattle.sparse.specs.Scattered.{pat}
use Rattle.lu_solve.specs.Solve.{grow_turn}
use Rattle.lu_reduce.proofs.grow.Given as goal

abbrev pub invariant-loop-r : goal.invariant-loop-r
invariant-loop-r l = pat l.marks l.list l.c ≡ run (grow_turn l.done) l.r-index (pat l.initial.marks l.initial.list l.initial.c)
