-- `lu_solve::dense_lower` meets its contract: columns rising. Assumes nothing.
use Rattle.std.proofs.Common.{refl}
use Rattle.doubles.specs.Loop.{run}
use Rattle.doubles.proofs.Loops.{next}
use Rattle.lu_solve.proofs.dense_lower.Goals as goal

pub loop-col-init : goal.loop-col-init
unfolding run
loop-col-init c = refl

pub loop-col-preserved : goal.loop-col-preserved
loop-col-preserved c = next _ _ c.loop-col.col c.loop-col.invariant c.process_col.ensures
