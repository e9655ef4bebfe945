-- `lu_solve::process_all` meets its contract: the finished places in reverse. Assumes nothing.
use Rattle.doubles.proofs.Loops.{back, back_done}
use Rattle.lu_solve.specs.Solve.{processed}
use Rattle.lu_solve.proofs.process_all.Goals as goal

pub loop-k-preserved : goal.loop-k-preserved
loop-k-preserved c = back _ c.loop-k.k c.loop-k-test.true c.process_col.ensures c.loop-k.invariant

pub returns : goal.returns
unfolding processed
returns c = back_done _ _ c.loop-k-test.false c.loop-k.invariant
