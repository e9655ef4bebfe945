-- After k turns the sum is the definition's after k turns. Assumes nothing.
use Rattle.std.proofs.Common.{◌≡◌}
use Rattle.doubles.specs.Num.{f0}
use Rattle.doubles.specs.Loop.{run}
use Rattle.sparse.specs.Scattered.{dot_turn}
use Rattle.sparse.proofs.dot.Given as goal

abbrev pub invariant-loop-k : goal.invariant-loop-k
invariant-loop-k l = l.sum ≡ run (dot_turn l.at l.xs l.v) l.k f0
