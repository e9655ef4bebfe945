-- `start_values::dual_feasible` meets its contract. Assumes nothing.
use mathlib.Core.Path.{refl, sym, ◌∙◌}
use Rattle.doubles.specs.Loop.{all}
use Rattle.doubles.proofs.Loops.{all_next, all_fails, all_done}
use Rattle.rules.specs.Start.{dual_feasible}
use Rattle.start_values.proofs.dual_feasible.Goals as goal

pub loop-j-init : goal.loop-j-init
unfolding all
loop-j-init c = refl

pub returns-then-not-start_dual : goal.returns-then-not-start_dual
unfolding dual_feasible
returns-then-not-start_dual c = sym (all_fails _ _ _ c.loop-j-test.true (sym c.start_dual.ensures ∙ c.if-not-start_dual.true))

pub loop-j-preserved : goal.loop-j-preserved
loop-j-preserved c = all_next _ _ c.loop-j.invariant (sym c.start_dual.ensures ∙ c.if-not-start_dual.false)

pub returns : goal.returns
unfolding dual_feasible
returns c = sym (all_done _ _ _ c.loop-j.auto.j-end c.loop-j-test.false c.loop-j.invariant)
