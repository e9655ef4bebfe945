-- `start::passes_7` meets its contract. Assumes nothing.
use mathlib.Core.Path.{refl, sym, ◌∙◌}
use Rattle.doubles.specs.Loop.{all}
use Rattle.doubles.proofs.Loops.{all_next, all_fails, all_done}
use Rattle.start.specs.Reckoned.{slacks_inside}
use Rattle.start.proofs.passes_7.Goals as goal

pub loop-r-init : goal.loop-r-init
unfolding all
loop-r-init c = refl

pub returns-then-not-in_bounds : goal.returns-then-not-in_bounds
unfolding slacks_inside
returns-then-not-in_bounds c = sym (all_fails _ _ _ c.loop-r-test.true (sym c.in_bounds.ensures ∙ c.if-not-in_bounds.true))

pub loop-r-preserved : goal.loop-r-preserved
loop-r-preserved c = all_next _ _ c.loop-r.invariant (sym c.in_bounds.ensures ∙ c.if-not-in_bounds.false)

pub returns : goal.returns
unfolding slacks_inside
returns c = sym (all_done _ _ _ c.loop-r.auto.r-end c.loop-r-test.false c.loop-r.invariant)
