-- `step_store::store_prices` meets its contract: a place not reached holds what it held. Assumes nothing.
use mathlib.Core.Path.{refl}
use mathlib.Core.List.{[]}
use native.Mathlib.Omega.{arith}
use Rattle.doubles.specs.Num.{◌⊘◌}
use Rattle.doubles.specs.Loop.{run}
use Rattle.doubles.specs.Lists.{◌!◌}
use Rattle.sparse.specs.Scattered.{sv}
use Rattle.rules.specs.Pivot.{stored, new_price}
use Rattle.step_numbers.specs.New.{price_by}
use Rattle.doubles.proofs.Items.{item, within, done_items}
use Rattle.step_store.proofs.Laws.{store_next}
use Rattle.step_store.proofs.store_prices.Goals as goal

pub loop-j-init : goal.loop-j-init
unfolding run
loop-j-init c = refl

pub loop-j-preserved : goal.loop-j-preserved
loop-j-preserved c =
    let a = c.args in
    rw (item a.count a.list.now (omega (arith, c.requires)) c.loop-j-test.true 0)
    (store_next (sv a.values.now [] a.list.now a.count) a.prices.now c.requires (λ j x. price_by a.e.col (a.e.price ⊘ a.pivot) j x (a.values.now ! j)) c.loop-j.j-index _
    (within a.count a.list.now (omega (arith, c.requires)) c.loop-j-test.true) c.loop-j.invariant (rw (item a.count a.list.now (omega (arith, c.requires)) c.loop-j-test.true 0) at c.new_price.ensures))

pub returns : goal.returns
unfolding stored new_price price_by
returns c =
    let a = c.args in
    λ _. done_items a.count a.list.now _ _ _ (omega (arith, c.requires)) c.loop-j.auto.j-index-end c.loop-j-test.false c.loop-j.invariant
