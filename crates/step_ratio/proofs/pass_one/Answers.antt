-- `step_ratio::pass_one` meets its contract. Assumes nothing.
use mathlib.Core.Path.{refl, ◌∙◌}
use mathlib.Core.List.{[]}
use native.Mathlib.Omega.{arith}
use Rattle.doubles.specs.Loop.{run, all}
use Rattle.doubles.proofs.Loops.{next, all_next}
use Rattle.sparse.specs.Scattered.{sv}
use Rattle.doubles.proofs.Items.{item, within, upto, past}
use Rattle.step_ratio.proofs.Passes.{one_more, max_step_23, max_step_is}
use Rattle.step_ratio.proofs.pass_one.Goals as goal

pub loop-r-init : goal.loop-r-init
unfolding run all
loop-r-init c = record { sound = refl; so_far = refl }

pub returns-in_err-step : goal.returns-in_err-step
returns-in_err-step c =
    let a = c.args in
    let i = item a.count a.list.now (omega (arith, c.requires.listing.count_fits)) c.loop-r-test.true 0 in
    let h = within a.count a.list.now (omega (arith, c.requires.listing.count_fits)) c.loop-r-test.true in
    λ m. c.from_residual.ensures ∙ max_step_23 _ _ _ (sv a.values.now m a.list.now a.count) c.rises-up.ensures c.loop-r.r-index _ _ (rw i at c.shrink.ensures) c.in_err-step.was h

pub loop-r-preserved : goal.loop-r-preserved
loop-r-preserved c =
    let a = c.args in
    let i = item a.count a.list.now (omega (arith, c.requires.listing.count_fits)) c.loop-r-test.true 0 in
    let y = one_more _ _ _ (sv a.values.now [] a.list.now a.count) c.loop-r.r-index _ (rw i at c.shrink.ensures) c.in_ok-step.was in
    record { sound = all_next _ _ c.loop-r.invariant.sound y.0; so_far = next _ _ c.loop-r.r-index c.loop-r.invariant.so_far y.1 }

pub returns : goal.returns
returns c =
    let a = c.args in
    let h = upto a.count a.list.now (omega (arith, c.requires.listing.count_fits)) c.loop-r.auto.r-index-end in
    let e = past a.count a.list.now (omega (arith, c.requires.listing.count_fits)) c.loop-r-test.false in
    λ m. max_step_is _ _ _ _ c.rises-up.ensures c.loop-r.r-index _ h e c.loop-r.invariant.sound c.loop-r.invariant.so_far
