-- `lu_gather::gather` meets its contract. Assumes nothing.
use Rattle.std.proofs.Common.{◌≤◌, length, arith, refl, sym, subst}
use Rattle.doubles.specs.Limits.{max_rows}
use Rattle.doubles.specs.Loop.{run}
use Rattle.doubles.proofs.Loops.{next}
use Rattle.lu_factor_rules.specs.Factor.{gathered}
use Rattle.lu_factor_rules.specs.Ready.{RoomFor}
use Rattle.doubles.proofs.Items.{within, item, item_below, done_items}
use Rattle.lu_gather.proofs.gather.Goals as goal

pub loop-r-init : goal.loop-r-init
unfolding run
loop-r-init c = refl

pub gather_one-c-requires : goal.gather_one-c-requires
gather_one-c-requires c =
    let h : c.args.count ≤ length c.args.list.now = omega (arith, c.requires.rows.0.few) in
    let q = item c.args.count c.args.list.now h c.loop-r-test.true 0 in (
      item_below {m = max_rows} c.args.list.now h c.requires.rows.0.rows c.loop-r-test.true,
      rw q (subst (RoomFor _ _ _ _) (sym c.loop-r.invariant) (c.requires.roomy.room _ (within _ c.args.list.now h c.loop-r-test.true))),
    )

pub loop-r-preserved : goal.loop-r-preserved
loop-r-preserved c =
    let h : c.args.count ≤ length c.args.list.now = omega (arith, c.requires.rows.0.few) in
    let q = item c.args.count c.args.list.now h c.loop-r-test.true 0 in
    next _ _ c.loop-r.r-index c.loop-r.invariant (rw q at c.gather_one-c.ensures)

pub returns : goal.returns
unfolding gathered
returns c =
    let h : c.args.count ≤ length c.args.list.now = omega (arith, c.requires.rows.0.few) in
    done_items _ c.args.list.now _ _ c.loop-r.r-index h c.loop-r.auto.r-index-end c.loop-r-test.false c.loop-r.invariant
