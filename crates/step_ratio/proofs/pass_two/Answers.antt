-- `step_ratio::pass_two` meets its contract. Assumes nothing.
use mathlib.Core.List.{[]}
use native.Mathlib.Omega.{arith}
use lib.Ieee.{neg}
use Rattle.doubles.specs.Loop.{run}
use Rattle.doubles.proofs.Loops.{next}
use Rattle.sparse.specs.Scattered.{sv}
use Rattle.rules.specs.Ratio.{leaving_of, candidate, pass_two_turn, pass_two}
use Rattle.doubles.proofs.Items.{item, upto, past}
use Rattle.step_ratio.proofs.Passes.{two_takes, two_keeps, leaves_at}
use Rattle.step_ratio.proofs.pass_two.Goals.{then-takes, else-takes}
use Rattle.step_ratio.proofs.pass_two.Goals as goal

pub loop-k-init : goal.loop-k-init
unfolding run neg
loop-k-init c = rw c.infinity-best.ensures

pub loop-k-preserved : goal.loop-k-preserved
loop-k-preserved c =
    let a = c.args in
    let column = sv a.values.now [] a.list.now a.count in
    let k = c.loop-k.k in
    let b = leaving_of c.loop-k.at c.loop-k.best in
    let i = item a.count a.list.now (omega (arith, c.requires.listing.count_fits)) c.loop-k-test.true 0 in
    next _ _ k c.loop-k.invariant
    (elim c.if-takes.branch [
      | then-takes v ↦ rw (v.at-is, v.best-is) (two_takes _ _ _ column _ k b (rw i at c.takes.ensures) v.if-takes.true (rw i at v.abs-best.ensures))
      | else-takes v ↦ rw (v.at-is, v.best-is) (two_keeps _ _ _ column _ k b (rw i at c.takes.ensures) v.if-takes.false)
    ])

pub returns : goal.returns
unfolding pass_two pass_two_turn candidate
returns c =
    let a = c.args in
    let h = upto a.count a.list.now (omega (arith, c.requires.listing.count_fits)) c.loop-k.auto.k-end in
    let e = past a.count a.list.now (omega (arith, c.requires.listing.count_fits)) c.loop-k-test.false in
    λ m. leaves_at _ _ _ (sv a.values.now [] a.list.now a.count) c.rises-up.ensures _ c.loop-k.k h e c.loop-k.invariant
