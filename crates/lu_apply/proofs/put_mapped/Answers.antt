-- `lu_apply::put_mapped` meets its contract. Assumes nothing.
use Rattle.std.proofs.Common.{◌≤◌, length, arith, refl, sym, subst}
use Rattle.doubles.specs.Limits.{places}
use Rattle.doubles.specs.Loop.{run}
use Rattle.doubles.proofs.Loops.{next}
use Rattle.sparse.specs.Scattered.{Good}
use Rattle.lu_factor_rules.specs.Solves.{mapped}
use Rattle.lu_apply.proofs.Laws.{good_mapping}
use Rattle.doubles.proofs.Items.{within, item, done_items}
use Rattle.lu_apply.proofs.put_mapped.Goals as goal

pub loop-i-init : goal.loop-i-init
unfolding run
loop-i-init c = refl

pub put_at-c-requires : goal.put_at-c-requires
put_at-c-requires c =
    let h : c.args.n ≤ length c.args.list.now = omega (arith, c.requires.0.few) in
    let w = within c.args.n c.args.list.now h c.loop-i-test.true in
    let q = item c.args.n c.args.list.now h c.loop-i-test.true 0 in (
      rw q (c.requires.0.leads _ w),
      subst (Good places) (sym c.loop-i.invariant) (good_mapping c.args.at.now c.args.values.now _ _ _ c.requires.0 c.requires.1 c.loop-i.i-index (omega (arith, w))),
    )

pub loop-i-preserved : goal.loop-i-preserved
loop-i-preserved c =
    let h : c.args.n ≤ length c.args.list.now = omega (arith, c.requires.0.few) in
    let q = item c.args.n c.args.list.now h c.loop-i-test.true 0 in
    next _ _ c.loop-i.i-index c.loop-i.invariant (rw q at c.put_at-c.ensures)

pub returns : goal.returns
unfolding mapped
returns c =
    let h : c.args.n ≤ length c.args.list.now = omega (arith, c.requires.0.few) in
    done_items _ c.args.list.now _ _ c.loop-i.i-index h c.loop-i.auto.i-index-end c.loop-i-test.false c.loop-i.invariant
