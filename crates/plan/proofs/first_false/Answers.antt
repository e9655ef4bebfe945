-- `plan::first_false` meets its contract. Assumes nothing.
use mathlib.Core.Path.{sym, ◌∙◌}
use native.Mathlib.Omega.{arith}
use Rattle.doubles.proofs.Loops.{seeks, hit, passed, missed}
use Rattle.rules.specs.Refusals.{first_false}
use Rattle.plan.proofs.first_false.Goals as goal

pub loop-i-init : goal.loop-i-init
unfolding first_false
loop-i-init c = seeks _ _

pub returns-then-false_row : goal.returns-then-false_row
returns-then-false_row c = hit c.loop-i.invariant c.loop-i-test.true (sym c.false_row.ensures ∙ c.if-false_row.true)

pub loop-i-preserved : goal.loop-i-preserved
loop-i-preserved c = passed c.loop-i.invariant c.loop-i-test.true (sym c.false_row.ensures ∙ c.if-false_row.false)

pub returns : goal.returns
returns c = omega (arith, missed c.loop-i.invariant c.loop-i-test.false)
