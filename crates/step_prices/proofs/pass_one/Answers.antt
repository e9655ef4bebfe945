-- `step_prices::pass_one` meets its contract. Assumes nothing.
use mathlib.Core.Path.{refl, ◌∙◌}
use mathlib.Core.List.{[]}
use native.Mathlib.Omega.{arith}
use Rattle.doubles.specs.Loop.{run, all}
use Rattle.doubles.proofs.Loops.{next, all_next}
use Rattle.sparse.specs.Scattered.{sv}
use Rattle.step_prices.specs.Lent.{priced_of}
use Rattle.doubles.proofs.Items.{item, within, upto, past}
use Rattle.step_prices.proofs.Passes.{one_more, max_step_23, max_step_is}
use Rattle.step_prices.proofs.pass_one.Goals as goal

pub loop-c-init : goal.loop-c-init
unfolding run all
loop-c-init c = record { sound = refl; so_far = c.infinity-step.ensures }

pub returns-in_err-step : goal.returns-in_err-step
returns-in_err-step c =
    let a = c.args in
    let i = item a.count a.list.now (omega (arith, c.requires)) c.loop-c-test.true 0 in
    let h = within a.count a.list.now (omega (arith, c.requires)) c.loop-c-test.true in
    λ m. c.from_residual.ensures ∙ max_step_23 (priced_of a.prices.now a.flags.now) _ (sv a.values.now m a.list.now a.count) c.loop-c.c-index _ (rw i at c.shrink.ensures) c.in_err-step.was h

pub loop-c-preserved : goal.loop-c-preserved
loop-c-preserved c =
    let a = c.args in
    let i = item a.count a.list.now (omega (arith, c.requires)) c.loop-c-test.true 0 in
    let y = one_more (priced_of a.prices.now a.flags.now) _ (sv a.values.now [] a.list.now a.count) c.loop-c.c-index _ (rw i at c.shrink.ensures) c.in_ok-step.was in
    record { sound = all_next _ _ c.loop-c.invariant.sound y.0; so_far = next _ _ c.loop-c.c-index c.loop-c.invariant.so_far y.1 }

pub returns : goal.returns
returns c =
    let a = c.args in
    let h = upto a.count a.list.now (omega (arith, c.requires)) c.loop-c.auto.c-index-end in
    let e = past a.count a.list.now (omega (arith, c.requires)) c.loop-c-test.false in
    λ m. max_step_is (priced_of a.prices.now a.flags.now) _ _ c.loop-c.c-index h e c.loop-c.invariant.sound c.loop-c.invariant.so_far
