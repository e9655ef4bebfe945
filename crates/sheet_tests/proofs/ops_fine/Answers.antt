-- `sheet_tests::ops_fine` meets its contract. Assumes nothing.
use Rattle.std.proofs.Common.{refl}
use mathlib.Core.Path.{sym}
use native.Mathlib.Omega.{arith}
use borrow.Author.Tests.{le-leb, lt-leb}
use Rattle.doubles.specs.Loop.{all}
use Rattle.doubles.proofs.Loops.{all_next, all_fails}
use Rattle.sheet_rules.specs.Opening.{ops_fine}
use Rattle.doubles.proofs.Items.{item, within, all_done_items}
use Rattle.sheet_tests.proofs.ops_fine.Goals as goal

pub loop-op-init : goal.loop-op-init
unfolding all
loop-op-init c = refl

pub returns-then-op-gt2 : goal.returns-then-op-gt2
unfolding ops_fine
returns-then-op-gt2 c =
    let own = item c.args.n c.args.ops.now (omega arith) c.loop-op-test.true 0 in
    let below = within c.args.n c.args.ops.now (omega arith) c.loop-op-test.true in
    sym (all_fails _ _ c.loop-op.op-index below (rw (← own) (lt-leb _ _ c.if-op-gt2.true)))

pub loop-op-preserved : goal.loop-op-preserved
loop-op-preserved c =
    let own = item c.args.n c.args.ops.now (omega arith) c.loop-op-test.true 0 in
    all_next _ _ c.loop-op.invariant (rw (← own) (le-leb _ _ c.if-op-gt2.false))

pub returns : goal.returns
unfolding ops_fine
returns c = sym (all_done_items _ c.args.ops.now _ c.loop-op.op-index (omega arith) c.loop-op.auto.op-index-end c.loop-op-test.false c.loop-op.invariant)
