-- `lu_gate::all_finite` meets its contract. Assumes nothing.
use Rattle.std.proofs.Common.{refl, sym}
use Rattle.std.specs.Float.{nan}
use Rattle.doubles.specs.Loop.{all}
use Rattle.doubles.proofs.Loops.{all_next, all_fails}
use Rattle.doubles.proofs.Items.{within, item}
use Rattle.lu_gate.proofs.all_finite.Goals as goal

pub loop-x-init : goal.loop-x-init
unfolding all
loop-x-init c = refl

pub returns-then-not-is_finite : goal.returns-then-not-is_finite
returns-then-not-is_finite c =
    let q = item c.args.n c.args.xs.now c.requires c.loop-x-test.true nan in
    sym (all_fails _ _ c.loop-x.x-index (within _ c.args.xs.now c.requires c.loop-x-test.true) (cc (q, c.is_finite.ensures, c.if-not-is_finite.true)))

pub loop-x-preserved : goal.loop-x-preserved
loop-x-preserved c =
    let q = item c.args.n c.args.xs.now c.requires c.loop-x-test.true nan in
    all_next _ c.loop-x.x-index c.loop-x.invariant (cc (q, c.is_finite.ensures, c.if-not-is_finite.false))
