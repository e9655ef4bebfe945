-- `sheet_tests::each_within` meets its contract. Assumes nothing.
use Rattle.std.proofs.Common.{refl}
use mathlib.Core.Path.{sym, ap, ◌∙◌}
use native.Mathlib.Omega.{arith}
use borrow.Author.Tests.{le-leb, lt-leb}
use lib.IntN.{nat_abs}
use Rattle.doubles.specs.Loop.{all}
use Rattle.doubles.proofs.Loops.{all_next, all_fails}
use Rattle.sheet_rules.specs.Opening.{all_within}
use Rattle.doubles.proofs.Items.{within, all_done_items}
use Rattle.sheet_terms.proofs.Machine.{result_item}
use Rattle.sheet_tests.proofs.each_within.Goals as goal

pub loop-x-init : goal.loop-x-init
unfolding all
loop-x-init c = refl

pub returns-then-size-limit : goal.returns-then-size-limit
unfolding all_within
returns-then-size-limit c =
    let size = c.size.ensures ∙ ap nat_abs (result_item c.args.n c.args.xs.now (omega arith) c.loop-x-test.true (omega arith)) in
    let below = within c.args.n c.args.xs.now (omega arith) c.loop-x-test.true in
    sym (all_fails _ _ c.loop-x.x-index below (rw (← size) (lt-leb _ _ c.if-size-limit.true)))

pub loop-x-preserved : goal.loop-x-preserved
loop-x-preserved c =
    let size = c.size.ensures ∙ ap nat_abs (result_item c.args.n c.args.xs.now (omega arith) c.loop-x-test.true (omega arith)) in
    all_next _ _ c.loop-x.invariant (rw (← size) (le-leb _ _ c.if-size-limit.false))

pub returns : goal.returns
unfolding all_within
returns c = sym (all_done_items _ c.args.xs.now _ c.loop-x.x-index (omega arith) c.loop-x.auto.x-index-end c.loop-x-test.false c.loop-x.invariant)
