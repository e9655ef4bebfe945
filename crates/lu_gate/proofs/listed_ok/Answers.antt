-- `lu_gate::listed_ok` meets its contract. Assumes nothing.
use Rattle.std.proofs.Common.{refl, sym}
use Rattle.doubles.specs.Loop.{all}
use Rattle.doubles.proofs.Loops.{all_next, all_fails}
use Rattle.doubles.proofs.Items.{within, item, all_done_items}
use Rattle.lu_gate.specs.Gate.{ok_held}
use Rattle.lu_gate.proofs.listed_ok.Goals as goal

pub loop-place-init : goal.loop-place-init
unfolding all
loop-place-init c = refl

pub returns-then-not-held_ok : goal.returns-then-not-held_ok
unfolding ok_held
returns-then-not-held_ok c =
    let q = item c.args.listed c.args.list.now c.requires.1 c.loop-place-test.true 0 in
    sym (all_fails _ _ c.loop-place.place-index (within _ c.args.list.now c.requires.1 c.loop-place-test.true) (cc (q, c.held_ok.ensures, c.if-not-held_ok.true)))

pub loop-place-preserved : goal.loop-place-preserved
loop-place-preserved c =
    let q = item c.args.listed c.args.list.now c.requires.1 c.loop-place-test.true 0 in
    all_next _ c.loop-place.place-index c.loop-place.invariant (cc (q, c.held_ok.ensures, c.if-not-held_ok.false))

pub returns : goal.returns
unfolding ok_held
returns c = sym (all_done_items _ c.args.list.now _ c.loop-place.place-index c.requires.1 c.loop-place.auto.place-index-end c.loop-place-test.false c.loop-place.invariant)
