-- `plan::none_falls` meets its contract. Assumes nothing.
use mathlib.Core.Path.{refl, sym}
use borrow.Author.Tests.{lt-leb, le-leb}
use Rattle.doubles.specs.Loop.{all}
use Rattle.doubles.proofs.Loops.{all_next, all_fails, all_done}
use Rattle.plan.proofs.none_falls.Goals as goal

pub loop-i-init : goal.loop-i-init
unfolding all
loop-i-init c = refl

pub returns-then-starts-i : goal.returns-then-starts-i
returns-then-starts-i c = sym (all_fails _ _ _ c.loop-i-test.true (lt-leb _ _ c.if-starts-i.true))

pub loop-i-preserved : goal.loop-i-preserved
loop-i-preserved c = all_next _ _ c.loop-i.invariant (le-leb _ _ c.if-starts-i.false)

pub returns : goal.returns
returns c = sym (all_done _ _ _ c.loop-i.auto.i-end c.loop-i-test.false c.loop-i.invariant)
