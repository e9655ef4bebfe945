-- `step_store::store_vals` meets its contract: a place not reached holds what it held. Assumes nothing.
use mathlib.Core.Path.{refl}
use mathlib.Core.List.{[]}
use native.Mathlib.Omega.{arith}
use Rattle.doubles.specs.Loop.{run}
use Rattle.doubles.specs.Lists.{◌!◌}
use Rattle.sparse.specs.Scattered.{sv}
use Rattle.rules.specs.Pivot.{stored, moved_val, new_val}
use Rattle.step_numbers.specs.New.{val_by}
use Rattle.doubles.proofs.Items.{item, within, done_items}
use Rattle.step_store.proofs.Laws.{store_next}
use Rattle.step_store.proofs.store_vals.Goals as goal

pub loop-r-init : goal.loop-r-init
unfolding run
loop-r-init c = refl

pub loop-r-preserved : goal.loop-r-preserved
loop-r-preserved c =
    let a = c.args in
    rw (item a.count a.list.now (omega (arith, c.requires)) c.loop-r-test.true 0)
    (store_next (sv a.values.now [] a.list.now a.count) a.basic_var_vals.now c.requires (λ j x. val_by a.row a.value a.diff j x (a.values.now ! j)) c.loop-r.r-index _
    (within a.count a.list.now (omega (arith, c.requires)) c.loop-r-test.true) c.loop-r.invariant (rw (item a.count a.list.now (omega (arith, c.requires)) c.loop-r-test.true 0) at c.new_val.ensures))

pub returns : goal.returns
unfolding stored new_val moved_val val_by
returns c =
    let a = c.args in
    λ _. done_items a.count a.list.now _ _ _ (omega (arith, c.requires)) c.loop-r.auto.r-index-end c.loop-r-test.false c.loop-r.invariant
