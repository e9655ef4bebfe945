-- `sparse::listed_finite` meets its contract. Assumes nothing.
use Rattle.std.proofs.Common.{refl, sym, ◌∙◌}
use native.Mathlib.Omega.{arith}
use Rattle.doubles.specs.Loop.{all}
use Rattle.doubles.proofs.Loops.{all_next, all_fails}
use Rattle.doubles.proofs.Items.{item, within, all_done_items}
use Rattle.sparse.specs.Scattered.{listed_finite}
use Rattle.sparse.proofs.listed_finite.Goals as goal

pub loop-i-init : goal.loop-i-init
unfolding all
loop-i-init c = refl

pub returns-then-not-is_finite : goal.returns-then-not-is_finite
unfolding listed_finite
returns-then-not-is_finite c =
    let h = item c.args.count c.args.list.now (omega arith) c.loop-i-test.true 0 in
    let b = within _ c.args.list.now (omega arith) c.loop-i-test.true in
    λ _. sym (all_fails _ _ c.loop-i.i-index b (rw h at (sym c.is_finite.ensures ∙ c.if-not-is_finite.true)))

pub loop-i-preserved : goal.loop-i-preserved
loop-i-preserved c =
    let h = item c.args.count c.args.list.now (omega arith) c.loop-i-test.true 0 in
    all_next _ c.loop-i.i-index c.loop-i.invariant (rw h at (sym c.is_finite.ensures ∙ c.if-not-is_finite.false))

pub returns : goal.returns
unfolding listed_finite
returns c =
    λ _. sym (all_done_items _ c.args.list.now _ c.loop-i.i-index (omega arith) c.loop-i.auto.i-index-end
    c.loop-i-test.false c.loop-i.invariant)
