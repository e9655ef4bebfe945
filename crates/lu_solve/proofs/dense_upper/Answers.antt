-- `lu_solve::dense_upper` meets its contract: columns falling. Assumes nothing.
use Rattle.doubles.proofs.Loops.{back, back_done}
use Rattle.lu_solve.proofs.dense_upper.Goals as goal

pub loop-col-preserved : goal.loop-col-preserved
loop-col-preserved c = back _ c.loop-col.col c.loop-col-test.true c.process_col.ensures c.loop-col.invariant

pub returns : goal.returns
returns c = back_done _ _ c.loop-col-test.false c.loop-col.invariant
