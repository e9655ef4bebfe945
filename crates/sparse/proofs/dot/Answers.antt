-- `sparse::dot` meets its contract. Assumes nothing.
use Rattle.std.proofs.Common.{refl}
use Rattle.doubles.specs.Loop.{run}
use Rattle.doubles.proofs.Loops.{next, done}
use Rattle.sparse.specs.Scattered.{dot}
use Rattle.sparse.proofs.dot.Goals as goal

pub loop-k-init : goal.loop-k-init
unfolding run
loop-k-init c = refl

pub loop-k-preserved : goal.loop-k-preserved
loop-k-preserved c = next _ _ c.loop-k.k c.loop-k.invariant refl

pub returns : goal.returns
unfolding dot
returns c = done _ _ _ _ c.loop-k.auto.k-end c.loop-k-test.false c.loop-k.invariant
