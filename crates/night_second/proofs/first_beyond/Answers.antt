-- `night_second::first_beyond` meets its contract. Assumes nothing.
use Rattle.std.proofs.Common.{◌≡◌, ap, ◌∙◌, pos, nat_abs}
use native.Mathlib.Omega.{arith}
use lib.Seq.{length-take-le}
use lib.ListN.{take}
use borrow.Author.Tests.{le-leb, lt-leb}
use Rattle.doubles.proofs.Loops.{seeks, hit, passed, missed}
use Rattle.sheet_rules.specs.Sum.{◌‼◌}
use Rattle.sheet_terms.proofs.Machine.{result}
use Rattle.night_rules.specs.Night.{first_beyond}
use Rattle.doubles.proofs.Items.{item, within}
use Rattle.night_second.proofs.first_beyond.Goals.{After-size}
use Rattle.night_second.proofs.first_beyond.Goals as goal

-- the size of this turn's cost
element : (c : After-size) → c.size.result ≡ nat_abs (c.args.costs.now ‼ c.loop-j.j)
element c = c.size.ensures ∙ ap nat_abs (result (take c.args.columns c.args.costs.now ‼ c.loop-j.j) (search) ∙ item c.args.columns c.args.costs.now c.requires c.loop-j-test.true (pos 0))

pub loop-j-init : goal.loop-j-init
unfolding first_beyond
loop-j-init c = seeks _ _

pub returns-then-size-gt-MAX_COEFFICIENT : goal.returns-then-size-gt-MAX_COEFFICIENT
returns-then-size-gt-MAX_COEFFICIENT c =
    hit c.loop-j.invariant (within c.args.columns c.args.costs.now c.requires c.loop-j-test.true)
    (rw (← element (goal.at.returns-then-size-gt-MAX_COEFFICIENT c).After-size) (rw (lt-leb _ _ c.if-size-gt-MAX_COEFFICIENT.true)))

pub loop-j-preserved : goal.loop-j-preserved
loop-j-preserved c =
    passed c.loop-j.invariant (within c.args.columns c.args.costs.now c.requires c.loop-j-test.true)
    (rw (← element (goal.at.loop-j-preserved c).After-size) (rw (le-leb _ _ c.if-size-gt-MAX_COEFFICIENT.false)))

pub returns : goal.returns
returns c =
    let n = length-take-le c.args.columns c.args.costs.now c.requires in
    let e : c.args.columns ≡ c.loop-j.j = omega (arith, n, c.loop-j.auto.j-end, c.loop-j-test.false) in
    e ∙ missed c.loop-j.invariant (omega (arith, e))
