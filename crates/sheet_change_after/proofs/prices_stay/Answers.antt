-- `sheet_change_after::prices_stay` meets its contract. Assumes nothing.
use Rattle.std.proofs.Common.{◌≡◌, refl, sym, ap, ◌∙◌, ℤ, nat_abs}
use native.Mathlib.Omega.{arith}
use borrow.Author.Tests.{le-leb, lt-leb}
use lib.IntN.{◌+ℤ◌}
use Rattle.doubles.specs.Limits.{max_d}
use Rattle.doubles.specs.Loop.{all}
use Rattle.doubles.proofs.Loops.{all_next, all_fails}
use Rattle.sheet_rules.specs.Sum.{◌‼◌}
use Rattle.sheet_rules.specs.Sheet.{Sheet, plan_of, kept_of, sheet_of}
use Rattle.sheet_rules.specs.Edit.{moved_d}
use Rattle.sheet_terms.proofs.Machine.{result, seen, num, exact}
use Rattle.sheet_change_after.specs.Change.{price_change}
use Rattle.sheet_change_after.proofs.prices_stay.Goals.{In-loop-j, After-size}
use Rattle.sheet_change_after.proofs.prices_stay.Goals as goal

-- this turn's number
module _ (c : After-size) where
  abbrev sheet : Sheet
  sheet = sheet_of (plan_of c.args.rows c.args.columns c.args.coefs.now c.args.costs.now c.args.lowers.now c.args.uppers.now c.args.lower_marks.now c.args.upper_marks.now c.args.rhs.now c.args.ops.now c.args.amounts.now c.args.mults.now) (kept_of c.args.r.now c.args.d.now c.args.c.now c.args.b.now c.args.counts.now)

  element : c.size.result ≡ nat_abs (moved_d sheet c.args.e c.loop-j.j)
  unfolding moved_d price_change
  element =
      c.size.ensures
      ∙ ap nat_abs (
      result c.price_after.result c.price_after.type_inv
      ∙ c.price_after.ensures
      ∙ ap (λ (z : ℤ). z +ℤ price_change sheet.plan c.args.e c.loop-j.j) (exact (num (c.args.d.now ‼ c.loop-j.j) max_d (c.requires.sound.kept_in.d_in c.loop-j.j c.loop-j-test.true)) tt)
      )

pub loop-j-init : goal.loop-j-init
unfolding all
loop-j-init c = refl

pub price_after-requires : goal.price_after-requires
price_after-requires c = (
  record { kept = kept_of c.args.r.now c.args.d.now c.args.c.now c.args.b.now c.args.counts.now; ready = c.requires },
  c.loop-j-test.true,
  seen (c.args.d.now ‼ c.loop-j.j) max_d (c.requires.sound.kept_in.d_in c.loop-j.j c.loop-j-test.true) tt,
)

pub returns-then-size-gt-MAX_D : goal.returns-then-size-gt-MAX_D
returns-then-size-gt-MAX_D c = sym (all_fails _ _ c.loop-j.j (omega arith) (rw (← element (goal.at.returns-then-size-gt-MAX_D c).After-size) (lt-leb _ _ c.if-size-gt-MAX_D.true)))

pub loop-j-preserved : goal.loop-j-preserved
loop-j-preserved c = all_next _ _ c.loop-j.invariant (rw (← element (goal.at.loop-j-preserved c).After-size) (le-leb _ _ c.if-size-gt-MAX_D.false))
