-- `step_numbers::moved_finite` meets its contract. Assumes nothing.
use mathlib.Core.Path.{refl, sym, ◌∙◌}
use native.Mathlib.Omega.{arith}
use Rattle.doubles.specs.Loop.{all}
use Rattle.doubles.proofs.Loops.{all_next, all_fails}
use Rattle.rules.specs.Pivot.{stores_finite, moved_val}
use Rattle.doubles.proofs.Items.{item, within, all_done_items}
use Rattle.step_numbers.proofs.moved_finite.Goals as goal

pub loop-r-init : goal.loop-r-init
unfolding all
loop-r-init c = refl

pub returns-then-not-is_finite : goal.returns-then-not-is_finite
unfolding stores_finite moved_val
returns-then-not-is_finite c =
    λ _. sym (all_fails _ _ c.loop-r.r-index (within c.args.count c.args.list.now (omega (arith, c.requires)) c.loop-r-test.true)
    (sym (rw (item c.args.count c.args.list.now (omega (arith, c.requires)) c.loop-r-test.true 0) at c.is_finite.ensures) ∙ c.if-not-is_finite.true))

pub loop-r-preserved : goal.loop-r-preserved
loop-r-preserved c =
    all_next _ c.loop-r.r-index c.loop-r.invariant
    (sym (rw (item c.args.count c.args.list.now (omega (arith, c.requires)) c.loop-r-test.true 0) at c.is_finite.ensures) ∙ c.if-not-is_finite.false)

pub returns : goal.returns
unfolding stores_finite moved_val
returns c = λ _. sym (all_done_items c.args.count c.args.list.now _ _ (omega (arith, c.requires)) c.loop-r.auto.r-index-end c.loop-r-test.false c.loop-r.invariant)
