-- `step_store::store_norms` meets its contract: a place not reached holds what it held. Assumes nothing.
use mathlib.Core.Path.{refl}
use mathlib.Core.List.{[]}
use native.Mathlib.Omega.{arith}
use Rattle.doubles.specs.Num.{◌⊗◌}
use Rattle.doubles.specs.Loop.{run}
use Rattle.doubles.specs.Lists.{◌!◌}
use Rattle.sparse.specs.Scattered.{sv}
use Rattle.rules.specs.Pivot.{stored}
use Rattle.step_numbers.specs.New.{norm_by}
use Rattle.doubles.proofs.Items.{item, within, done_items}
use Rattle.step_store.proofs.Laws.{store_next}
use Rattle.step_store.proofs.store_norms.Goals as goal

pub loop-j-init : goal.loop-j-init
unfolding run
loop-j-init c = refl

pub loop-j-preserved : goal.loop-j-preserved
loop-j-preserved c =
    let a = c.args in
    rw (item a.count a.list.now (omega (arith, c.requires)) c.loop-j-test.true 0)
    (store_next (sv a.values.now [] a.list.now a.count) a.norms.now c.requires (λ j x. norm_by a.col a.sq a.pivot (a.pivot ⊗ a.pivot) j x (a.values.now ! j) (a.helper.now ! j)) c.loop-j.j-index _
    (within a.count a.list.now (omega (arith, c.requires)) c.loop-j-test.true) c.loop-j.invariant (rw (item a.count a.list.now (omega (arith, c.requires)) c.loop-j-test.true 0) at c.new_norm.ensures))

pub returns : goal.returns
unfolding stored
returns c =
    let a = c.args in
    λ _. done_items a.count a.list.now _ _ _ (omega (arith, c.requires)) c.loop-j.auto.j-index-end c.loop-j-test.false c.loop-j.invariant
