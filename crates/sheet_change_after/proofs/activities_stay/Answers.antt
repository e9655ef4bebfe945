-- `sheet_change_after::activities_stay` meets its contract. Assumes nothing.
use Rattle.std.proofs.Common.{◌≡◌, refl, sym, ap, ◌∙◌, ℤ, nat_abs}
use native.Mathlib.Omega.{arith}
use borrow.Author.Tests.{le-leb, lt-leb}
use lib.IntN.{◌+ℤ◌}
use Rattle.doubles.specs.Limits.{max_r}
use Rattle.doubles.specs.Loop.{all}
use Rattle.doubles.proofs.Loops.{all_next, all_fails}
use Rattle.sheet_rules.specs.Sum.{◌‼◌}
use Rattle.sheet_rules.specs.Sheet.{Sheet, plan_of, kept_of, sheet_of}
use Rattle.sheet_rules.specs.Edit.{moved_r}
use Rattle.sheet_terms.proofs.Machine.{result, seen, num, exact}
use Rattle.sheet_change_after.specs.Change.{row_change}
use Rattle.sheet_change_after.proofs.activities_stay.Goals.{In-loop-i, After-size}
use Rattle.sheet_change_after.proofs.activities_stay.Goals as goal

-- this turn's number
module _ (c : After-size) where
  abbrev sheet : Sheet
  sheet = sheet_of (plan_of c.args.rows c.args.columns c.args.coefs.now c.args.costs.now c.args.lowers.now c.args.uppers.now c.args.lower_marks.now c.args.upper_marks.now c.args.rhs.now c.args.ops.now c.args.amounts.now c.args.mults.now) (kept_of c.args.r.now c.args.d.now c.args.c.now c.args.b.now c.args.counts.now)

  element : c.size.result ≡ nat_abs (moved_r sheet c.args.e c.loop-i.i)
  unfolding moved_r row_change
  element =
      c.size.ensures
      ∙ ap nat_abs (
      result c.activity_after.result c.activity_after.type_inv
      ∙ c.activity_after.ensures
      ∙ ap (λ (z : ℤ). z +ℤ row_change sheet.plan c.args.e c.loop-i.i) (exact (num (c.args.r.now ‼ c.loop-i.i) max_r (c.requires.sound.kept_in.r_in c.loop-i.i c.loop-i-test.true)) tt)
      )

pub loop-i-init : goal.loop-i-init
unfolding all
loop-i-init c = refl

pub activity_after-requires : goal.activity_after-requires
activity_after-requires c = (
  record { kept = kept_of c.args.r.now c.args.d.now c.args.c.now c.args.b.now c.args.counts.now; ready = c.requires },
  c.loop-i-test.true,
  seen (c.args.r.now ‼ c.loop-i.i) max_r (c.requires.sound.kept_in.r_in c.loop-i.i c.loop-i-test.true) tt,
)

pub returns-then-size-gt-MAX_R : goal.returns-then-size-gt-MAX_R
returns-then-size-gt-MAX_R c = sym (all_fails _ _ c.loop-i.i (omega arith) (rw (← element (goal.at.returns-then-size-gt-MAX_R c).After-size) (lt-leb _ _ c.if-size-gt-MAX_R.true)))

pub loop-i-preserved : goal.loop-i-preserved
loop-i-preserved c = all_next _ _ c.loop-i.invariant (rw (← element (goal.at.loop-i-preserved c).After-size) (le-leb _ _ c.if-size-gt-MAX_R.false))
