-- `lu_gate::diag_ok` meets its contract. Assumes nothing.
use Rattle.std.proofs.Common.{refl, sym}
use Rattle.std.specs.Float.{nan}
use Rattle.doubles.specs.Loop.{all}
use Rattle.doubles.proofs.Loops.{all_next, all_fails}
use Rattle.doubles.proofs.Items.{within, item, all_done_items}
use Rattle.lu_gate.specs.Gate.{ok_diag}
use Rattle.lu_gate.proofs.diag_ok.Goals as goal

pub returns-then-not-has_diag : goal.returns-then-not-has_diag
unfolding ok_diag
returns-then-not-has_diag c = rw c.if-not-has_diag.true

pub loop-d-init : goal.loop-d-init
unfolding all
loop-d-init c = refl

pub returns-then-d : goal.returns-then-d
unfolding ok_diag
returns-then-d c =
    let h = c.requires c.if-not-has_diag.false in
    let q = item c.args.size c.args.diag.now h c.loop-d-test.true nan in
    rw c.if-not-has_diag.false (sym (all_fails _ _ c.loop-d.d-index (within _ c.args.diag.now h c.loop-d-test.true) (rw (← q, c.if-d.true) refl)))

pub loop-d-preserved : goal.loop-d-preserved
loop-d-preserved c =
    let h = c.requires c.if-not-has_diag.false in
    let q = item c.args.size c.args.diag.now h c.loop-d-test.true nan in
    all_next _ c.loop-d.d-index c.loop-d.invariant (rw (← q, c.if-d.false) refl)

pub returns : goal.returns
unfolding ok_diag
returns c =
    rw c.if-not-has_diag.false (sym (all_done_items _ c.args.diag.now _ c.loop-d.d-index (c.requires c.if-not-has_diag.false) c.loop-d.auto.d-index-end c.loop-d-test.false c.loop-d.invariant))
