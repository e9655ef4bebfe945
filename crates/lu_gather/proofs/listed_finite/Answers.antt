-- `lu_gather::listed_finite` meets its contract. Assumes nothing.
use Rattle.std.proofs.Common.{◌≤◌, length, arith, refl, sym}
use Rattle.doubles.specs.Loop.{all}
use Rattle.doubles.proofs.Loops.{all_next, all_fails}
use Rattle.lu_factor_rules.specs.Factor.{listed_finite}
use Rattle.doubles.proofs.Items.{within, item, all_done_items}
use Rattle.lu_gather.proofs.listed_finite.Goals as goal

pub loop-i-init : goal.loop-i-init
unfolding all
loop-i-init c = refl

pub returns-then-not-is_finite : goal.returns-then-not-is_finite
unfolding listed_finite
returns-then-not-is_finite c =
    let h : c.args.count ≤ length c.args.list.now = omega (arith, c.requires.few) in
    let q = item c.args.count c.args.list.now h c.loop-i-test.true 0 in
    sym (all_fails _ _ c.loop-i.i-index (within _ c.args.list.now h c.loop-i-test.true) (cc (q, c.is_finite.ensures, c.if-not-is_finite.true)))

pub loop-i-preserved : goal.loop-i-preserved
loop-i-preserved c =
    let h : c.args.count ≤ length c.args.list.now = omega (arith, c.requires.few) in
    let q = item c.args.count c.args.list.now h c.loop-i-test.true 0 in
    all_next _ c.loop-i.i-index c.loop-i.invariant (cc (q, c.is_finite.ensures, c.if-not-is_finite.false))

pub returns : goal.returns
unfolding listed_finite
returns c =
    let h : c.args.count ≤ length c.args.list.now = omega (arith, c.requires.few) in
    sym (all_done_items _ c.args.list.now _ c.loop-i.i-index h c.loop-i.auto.i-index-end c.loop-i-test.false c.loop-i.invariant)
