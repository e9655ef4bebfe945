-- `lu_gather::choose` meets its contract. Assumes nothing.
use Rattle.std.proofs.Common.{◌≤◌, length, arith, refl}
use Rattle.doubles.specs.Loop.{run}
use Rattle.doubles.proofs.Loops.{next}
use Rattle.lu_factor_rules.specs.Factor.{chosen}
use Rattle.doubles.proofs.Items.{item, done_items}
use Rattle.lu_gather.proofs.choose.Goals as goal

pub loop-r-init : goal.loop-r-init
unfolding run
loop-r-init c = refl

pub loop-r-preserved : goal.loop-r-preserved
loop-r-preserved c =
    let h : c.args.count ≤ length c.args.list.now = omega (arith, c.requires.few) in
    let q = item c.args.count c.args.list.now h c.loop-r-test.true 0 in
    next _ _ c.loop-r.r-index c.loop-r.invariant (rw q at c.better-b.ensures)

pub returns : goal.returns
unfolding chosen
returns c =
    let h : c.args.count ≤ length c.args.list.now = omega (arith, c.requires.few) in
    done_items _ c.args.list.now _ _ c.loop-r.r-index h c.loop-r.auto.r-index-end c.loop-r-test.false c.loop-r.invariant
