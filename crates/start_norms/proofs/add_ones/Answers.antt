-- `start_norms::add_ones` meets its contract. Assumes nothing.
use mathlib.Core.Path.{ap}
use native.Mathlib.Omega.{arith}
use lib.Ieee.{Float, nan}
use Rattle.doubles.specs.Num.{◌⊕◌, f1}
use Rattle.doubles.proofs.Loops.{filled_none, filled_more, filled_ahead, filled_done}
use Rattle.start_norms.proofs.add_ones.Goals as goal

pub loop-j-init : goal.loop-j-init
loop-j-init c = filled_none

pub loop-j-preserved : goal.loop-j-preserved
loop-j-preserved c = filled_more c.loop-j.invariant (omega arith) (ap (λ (x : Float). x ⊕ f1) (filled_ahead c.loop-j.invariant nan))

pub returns : goal.returns
returns c = filled_done _ c.loop-j.auto.j-end c.loop-j-test.false c.loop-j.invariant
