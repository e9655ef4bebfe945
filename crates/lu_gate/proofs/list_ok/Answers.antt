-- `lu_gate::list_ok` meets its contract. Assumes nothing.
use Rattle.std.proofs.Common.{refl, sym, false}
use lib.ListN.{length-set, length-replicate, replicate}
use borrow.Author.Tests.{lt-ltb, le-ltb}
use Rattle.doubles.specs.Limits.{max_rows}
use Rattle.doubles.specs.Loop.{all, run}
use Rattle.doubles.proofs.Loops.{all_next, all_fails, next}
use Rattle.lu_solve.specs.Solve.{mark_turn, given}
use Rattle.doubles.proofs.Items.{within, item, all_done_items}
use Rattle.lu_gate.specs.Gate.{ok_list}
use Rattle.lu_gate.proofs.list_ok.Goals as goal

pub loop-i-init : goal.loop-i-init
unfolding all given run
loop-i-init c = record { inside = refl; marked = refl; long = length-replicate max_rows false }

pub returns-then-size-i : goal.returns-then-size-i
unfolding ok_list
returns-then-size-i c =
    let q = item c.args.listed c.args.list.now c.requires.1 c.loop-i-test.true 0 in
    sym (all_fails _ _ c.loop-i.i-index (within _ c.args.list.now c.requires.1 c.loop-i-test.true) (rw (← q, le-ltb _ _ c.if-size-i.true) refl))

pub returns-then-marks-i : goal.returns-then-marks-i
unfolding ok_list
returns-then-marks-i c =
    let q = item c.args.listed c.args.list.now c.requires.1 c.loop-i-test.true 0 in
    sym (all_fails _ _ c.loop-i.i-index (within _ c.args.list.now c.requires.1 c.loop-i-test.true) (rw (← q, lt-ltb _ _ c.if-size-i.false, ← c.loop-i.invariant.marked, c.if-marks-i.true) refl))

pub loop-i-preserved : goal.loop-i-preserved
unfolding given
loop-i-preserved c =
    let q = item c.args.listed c.args.list.now c.requires.1 c.loop-i-test.true 0 in
    record {
      inside = all_next _ c.loop-i.i-index c.loop-i.invariant.inside (rw (← q, lt-ltb _ _ c.if-size-i.false, ← c.loop-i.invariant.marked, c.if-marks-i.false) refl);
      marked = rw q (next (mark_turn c.args.list.now) (replicate max_rows false) c.loop-i.i-index c.loop-i.invariant.marked refl);
      long = simp length-set c.loop-i.invariant.long;
    }

pub returns : goal.returns
unfolding ok_list
returns c = sym (all_done_items _ c.args.list.now _ c.loop-i.i-index c.requires.1 c.loop-i.auto.i-index-end c.loop-i-test.false c.loop-i.invariant.inside)
