-- `lu_walk::own_numbers` meets its contract. Assumes nothing.
use Rattle.std.proofs.Common.{refl}
use Rattle.doubles.specs.Loop.{run}
use Rattle.doubles.proofs.Loops.{next, done}
use Rattle.lu_walk.specs.Walk.{own_numbers}
use Rattle.lu_walk.proofs.own_numbers.Goals as goal

pub loop-p-init : goal.loop-p-init
unfolding run
loop-p-init c = refl

pub loop-p-preserved : goal.loop-p-preserved
loop-p-preserved c = next _ _ c.loop-p.p c.loop-p.invariant refl

pub returns : goal.returns
unfolding own_numbers
returns c = done _ _ _ _ c.loop-p.auto.p-end c.loop-p-test.false c.loop-p.invariant
