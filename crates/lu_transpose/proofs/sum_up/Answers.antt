-- `lu_transpose::sum_up` meets its contract. Assumes nothing.
use Rattle.std.proofs.Common.{refl}
use Rattle.doubles.specs.Loop.{run}
use Rattle.doubles.proofs.Loops.{next, done}
use Rattle.lu_factor_rules.specs.Transpose.{summed}
use Rattle.lu_transpose.proofs.sum_up.Goals as goal

pub loop-r-init : goal.loop-r-init
unfolding run
loop-r-init c = refl

pub loop-r-preserved : goal.loop-r-preserved
loop-r-preserved c = next _ _ c.loop-r.r c.loop-r.invariant refl

pub returns : goal.returns
unfolding summed
returns c = done _ _ _ _ c.loop-r.auto.r-end c.loop-r-test.false c.loop-r.invariant
