-- After k turns the sum is the definition's after k turns. Assumes nothing.
use Rattle.std.proofs.Common.{◌≡◌, []}
use Rattle.doubles.specs.Num.{f0}
use Rattle.doubles.specs.Loop.{run}
use Rattle.sparse.specs.Scattered.{sv, square_turn}
use Rattle.sparse.proofs.sq_norm.Given as goal

abbrev pub invariant-loop-p : goal.invariant-loop-p
invariant-loop-p l = l.sum ≡ run (square_turn (sv l.values [] l.list l.count)) l.p-index f0
