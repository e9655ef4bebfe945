-- `plan::first_crossed` meets its contract. Assumes nothing.
use native.Mathlib.Omega.{arith}
use Rattle.doubles.proofs.Loops.{seeks, hit, passed, missed}
use Rattle.rules.specs.Refusals.{first_crossed}
use Rattle.plan.proofs.first_crossed.Goals as goal

pub loop-j-init : goal.loop-j-init
unfolding first_crossed
loop-j-init c = seeks _ _

pub returns-then-uppers-j : goal.returns-then-uppers-j
returns-then-uppers-j c = hit c.loop-j.invariant c.loop-j-test.true c.if-uppers-j.true

pub loop-j-preserved : goal.loop-j-preserved
loop-j-preserved c = passed c.loop-j.invariant c.loop-j-test.true c.if-uppers-j.false

pub returns : goal.returns
returns c = omega (arith, missed c.loop-j.invariant c.loop-j-test.false)
