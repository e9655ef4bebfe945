-- `sheet_tests::uncrossed` meets its contract. Assumes nothing.
use Rattle.std.proofs.Common.{◌≡◌, refl, ℕ, ◌<◌, Bool, ℤ}
use mathlib.Core.Path.{sym, ap, ◌∙◌}
use mathlib.Core.Bool.{not}
use Prim.Native.Nat.{◌^◌}
use native.Mathlib.Omega.{arith}
use lib.Signed.{mag}
use Rattle.doubles.specs.Loop.{all}
use Rattle.doubles.proofs.Loops.{all_next, all_fails, all_done}
use Rattle.sheet_rules.specs.Sum.{◌‼◌}
use Rattle.sheet_rules.specs.Opening.{crosses, uncrossed}
use Rattle.sheet_terms.proofs.Machine.{word, result}
use Rattle.sheet_tests.proofs.uncrossed.Goals as goal

-- a column's answer is that of its own numbers
read : (low high : ℤ) (p q : ℕ) {t : Bool} → mag low < 2 ^ 63 → mag high < 2 ^ 63 → t ≡ crosses (word low) (word high) p q → t ≡ crosses low high p q
read low high p q a b e = e ∙ rw (result low a, result high b)

pub loop-j-init : goal.loop-j-init
unfolding all
loop-j-init c = refl

pub returns-then-crosses : goal.returns-then-crosses
unfolding uncrossed
returns-then-crosses c =
    let own = read (c.args.lowers.now ‼ c.loop-j.j) (c.args.uppers.now ‼ c.loop-j.j) _ _ (omega arith) (omega arith) c.crosses.ensures in
    sym (all_fails _ _ c.loop-j.j c.loop-j-test.true (ap not (sym own ∙ c.if-crosses.true)))

pub loop-j-preserved : goal.loop-j-preserved
loop-j-preserved c =
    let own = read (c.args.lowers.now ‼ c.loop-j.j) (c.args.uppers.now ‼ c.loop-j.j) _ _ (omega arith) (omega arith) c.crosses.ensures in
    all_next _ _ c.loop-j.invariant (ap not (sym own ∙ c.if-crosses.false))

pub returns : goal.returns
unfolding uncrossed
returns c = sym (all_done _ _ _ c.loop-j.auto.j-end c.loop-j-test.false c.loop-j.invariant)
