-- `step_store::store_moved` meets its contract: a place not reached holds what it held. Assumes nothing.
use mathlib.Core.Path.{refl}
use mathlib.Core.List.{[]}
use native.Mathlib.Omega.{arith}
use Rattle.doubles.specs.Num.{◌⊖◌, ◌⊗◌}
use Rattle.doubles.specs.Loop.{run}
use Rattle.doubles.specs.Lists.{◌!◌}
use Rattle.sparse.specs.Scattered.{sv}
use Rattle.rules.specs.Pivot.{stored, moved_val}
use Rattle.doubles.proofs.Items.{item, within, done_items}
use Rattle.step_store.proofs.Laws.{store_next}
use Rattle.step_store.proofs.store_moved.Goals as goal

pub loop-r-init : goal.loop-r-init
unfolding run
loop-r-init c = refl

pub loop-r-preserved : goal.loop-r-preserved
loop-r-preserved c =
    let a = c.args in
    rw (item a.count a.list.now (omega (arith, c.requires)) c.loop-r-test.true 0)
    (store_next (sv a.values.now [] a.list.now a.count) a.basic_var_vals.now c.requires (λ j x. x ⊖ a.diff ⊗ a.values.now ! j) c.loop-r.r-index _
    (within a.count a.list.now (omega (arith, c.requires)) c.loop-r-test.true) c.loop-r.invariant refl)

pub returns : goal.returns
unfolding stored moved_val
returns c =
    let a = c.args in
    λ _. done_items a.count a.list.now _ _ _ (omega (arith, c.requires)) c.loop-r.auto.r-index-end c.loop-r-test.false c.loop-r.invariant
