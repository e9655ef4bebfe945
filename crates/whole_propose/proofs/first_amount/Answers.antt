-- `whole_propose::first_amount` meets its contract. Assumes nothing.
use Rattle.std.proofs.Common.{◌≡◌, sym, ap, ◌∙◌}
use native.Mathlib.Omega.{arith}
use lib.Ieee.{nan}
use lib.Seq.{length-take-le}
use mathlib.Core.Bool.{not}
use Rattle.doubles.specs.Lists.{◌!◌}
use Rattle.doubles.proofs.Loops.{seeks, hit, passed, missed}
use Rattle.whole_round.specs.Whole.{amount_of, is_whole}
use Rattle.whole_propose.specs.Propose.{first_amount}
use Rattle.doubles.proofs.Items.{item, within}
use Rattle.whole_propose.proofs.first_amount.Goals.{After-is_whole}
use Rattle.whole_propose.proofs.first_amount.Goals as goal

-- this turn's test
tested : (c : After-is_whole) → is_whole (amount_of (c.args.values.now ! c.loop-j.j)) ≡ c.is_whole.result
tested c = rw (item c.args.columns c.args.values.now c.requires c.loop-j-test.true nan) at (sym (c.is_whole.ensures ∙ ap is_whole c.amount.ensures))

pub loop-j-init : goal.loop-j-init
unfolding first_amount
loop-j-init c = seeks _ _

pub returns-then-not-is_whole : goal.returns-then-not-is_whole
returns-then-not-is_whole c =
    hit c.loop-j.invariant (within c.args.columns c.args.values.now c.requires c.loop-j-test.true)
    (ap not (tested (goal.at.returns-then-not-is_whole c).After-is_whole ∙ c.if-not-is_whole.true))

pub loop-j-preserved : goal.loop-j-preserved
loop-j-preserved c =
    passed c.loop-j.invariant (within c.args.columns c.args.values.now c.requires c.loop-j-test.true)
    (ap not (tested (goal.at.loop-j-preserved c).After-is_whole ∙ c.if-not-is_whole.false))

pub returns : goal.returns
returns c =
    let n = length-take-le c.args.columns c.args.values.now c.requires in
    let e : c.args.columns ≡ c.loop-j.j = omega (arith, n, c.loop-j.auto.j-end, c.loop-j-test.false) in
    e ∙ missed c.loop-j.invariant (omega (arith, e))
