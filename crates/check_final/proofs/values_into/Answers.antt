-- `check_final::values_into` meets its contract. Assumes nothing.
use native.Mathlib.Omega.{arith}
use Rattle.doubles.proofs.Loops.{filled_none, filled_more, filled_done}
use Rattle.rules.specs.FinalCheck.{values_of}
use Rattle.check_final.proofs.values_into.Goals as goal

pub loop-v-init : goal.loop-v-init
loop-v-init c = filled_none

pub loop-v-preserved : goal.loop-v-preserved
loop-v-preserved c = filled_more c.loop-v.invariant (omega arith) c.get_value.ensures

pub returns : goal.returns
unfolding values_of
returns c = filled_done _ c.loop-v.auto.v-end c.loop-v-test.false c.loop-v.invariant
