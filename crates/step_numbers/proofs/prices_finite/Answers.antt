-- `step_numbers::prices_finite` meets its contract. Assumes nothing.
use mathlib.Core.Path.{refl, sym, ap, ◌∙◌}
use native.Mathlib.Omega.{arith}
use Rattle.doubles.specs.Num.{finite}
use Rattle.doubles.specs.Loop.{all}
use Rattle.doubles.proofs.Loops.{all_next, all_fails}
use Rattle.rules.specs.Pivot.{stores_finite, new_price}
use Rattle.step_numbers.specs.New.{price_by}
use Rattle.doubles.proofs.Items.{item, within, all_done_items}
use Rattle.step_numbers.proofs.prices_finite.Goals as goal

pub loop-j-init : goal.loop-j-init
unfolding all
loop-j-init c = refl

pub returns-then-not-is_finite : goal.returns-then-not-is_finite
unfolding stores_finite new_price price_by
returns-then-not-is_finite c =
    λ _. sym (all_fails _ _ c.loop-j.j-index (within c.args.count c.args.list.now (omega (arith, c.requires)) c.loop-j-test.true)
    (ap finite (sym (rw (item c.args.count c.args.list.now (omega (arith, c.requires)) c.loop-j-test.true 0) at c.new_price-price.ensures)) ∙ sym c.is_finite.ensures ∙ c.if-not-is_finite.true))

pub loop-j-preserved : goal.loop-j-preserved
loop-j-preserved c =
    all_next _ c.loop-j.j-index c.loop-j.invariant
    (ap finite (sym (rw (item c.args.count c.args.list.now (omega (arith, c.requires)) c.loop-j-test.true 0) at c.new_price-price.ensures)) ∙ sym c.is_finite.ensures ∙ c.if-not-is_finite.false)

pub returns : goal.returns
unfolding stores_finite new_price price_by
returns c = λ _. sym (all_done_items c.args.count c.args.list.now _ _ (omega (arith, c.requires)) c.loop-j.auto.j-index-end c.loop-j-test.false c.loop-j.invariant)
