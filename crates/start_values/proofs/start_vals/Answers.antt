-- `start_values::start_vals` meets its contract. Assumes nothing.
use native.Mathlib.Omega.{arith}
use Rattle.doubles.proofs.Loops.{filled_none, filled_more, filled_done}
use Rattle.rules.specs.Start.{start_vals}
use Rattle.start_values.proofs.start_vals.Goals as goal

pub loop-j-init : goal.loop-j-init
loop-j-init c = filled_none

pub loop-j-preserved : goal.loop-j-preserved
loop-j-preserved c = filled_more c.loop-j.invariant (omega arith) c.start_val.ensures

pub returns : goal.returns
unfolding start_vals
returns c = filled_done _ c.loop-j.auto.j-end c.loop-j-test.false c.loop-j.invariant
