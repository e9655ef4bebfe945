-- `step_numbers::eta_finite` meets its contract. Assumes nothing.
use mathlib.Core.Path.{refl, sym, ap, ◌∙◌}
use native.Mathlib.Omega.{arith}
use Rattle.doubles.specs.Num.{finite}
use Rattle.doubles.specs.Loop.{all}
use Rattle.doubles.proofs.Loops.{all_next, all_fails}
use Rattle.rules.specs.Pivot.{eta_finite}
use Rattle.doubles.proofs.Items.{item, within, all_done_items}
use Rattle.step_numbers.proofs.eta_finite.Goals as goal

pub loop-r-init : goal.loop-r-init
unfolding all
loop-r-init c = refl

pub returns-then-not-is_finite : goal.returns-then-not-is_finite
unfolding eta_finite
returns-then-not-is_finite c =
    λ _. sym (all_fails _ _ c.loop-r.r-index (within c.args.count c.args.list.now (omega (arith, c.requires)) c.loop-r-test.true)
    (ap finite (sym (rw (item c.args.count c.args.list.now (omega (arith, c.requires)) c.loop-r-test.true 0) at c.eta_entry-x.ensures)) ∙ sym c.is_finite.ensures ∙ c.if-not-is_finite.true))

pub loop-r-preserved : goal.loop-r-preserved
loop-r-preserved c =
    all_next _ c.loop-r.r-index c.loop-r.invariant
    (ap finite (sym (rw (item c.args.count c.args.list.now (omega (arith, c.requires)) c.loop-r-test.true 0) at c.eta_entry-x.ensures)) ∙ sym c.is_finite.ensures ∙ c.if-not-is_finite.false)

pub returns : goal.returns
unfolding eta_finite
returns c = λ _. sym (all_done_items c.args.count c.args.list.now _ _ (omega (arith, c.requires)) c.loop-r.auto.r-index-end c.loop-r-test.false c.loop-r.invariant)
