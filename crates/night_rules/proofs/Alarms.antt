-- The alarm cost of what is handed out: "never .. higher .. than the first stage's", and "within the first gap of the
-- least possible". Assumes nothing.
use mathlib.Core.Path.{◌≡◌, refl, sym, ap, ◌∙◌, subst}
use mathlib.Core.Bool.{false, not}
use Prim.Native.Nat.{ℕ, zero, suc, ◌+◌, ◌*◌, ◌≤◌}
use mathlib.Core.List.{List}
use native.Mathlib.Omega.{arith}
use lib.IntN.{ℤ, pos, neg_ℤ, ◌+ℤ◌, ◌-ℤ◌, ◌*ℤ◌, +ℤ_assoc}
use lib.Signed.{◌≤ℤ◌, ≤ℤ_refl}
use borrow.Author.Tests.{not-false}
use Rattle.doubles.specs.Limits.{unit}
use Rattle.sheet_rules.specs.Sheet.{Plan, Sheet, x, holds, activity, cost, broken_at, broken_rows, rhs, op}
use Rattle.sheet_rules.specs.Verdict.{verdict}
use Rattle.sheet_rules.specs.Words.{Keeps, Gapped, IsPlan, Openable, VerdictSays}
use Rattle.sheet_rules.specs.declared.Verdict.{Verdict}
use Rattle.sheet_rules.specs.declared.Verdict.TheVariants.{NoneExists, NotPlan, Gap}
use Rattle.sheet_rules.proofs.Exact.{verdict_says}
use Rattle.sheet_rules.proofs.KeptSizes.{kept_in}
use Rattle.sheet_rules.proofs.Ring.{add_le_add, mul_le_mul, nonneg, le_elim, le_by}
use Rattle.sheet_rules.proofs.Sums.{count_zero}
use Rattle.sheet_rules.proofs.Tests.{le_z_decides}
use Rattle.night_rules.specs.Arrays.{Arrays}
use Rattle.night_rules.specs.Second.{second_plan}
use Rattle.night_rules.specs.Stage.{Staged}
use Rattle.night_rules.specs.Night.{NightPlan}
use Rattle.night_rules.specs.declared.Audit.TheVariants.{Judged}
use Rattle.night_rules.specs.Words.{Opens, the_sheet, first_stage, found, second_plan_of, second_stage, Stands}
use Rattle.night_rules.specs.Words.{not_plan, none_exists_holds, PastFound, AlarmsFirst}
use Rattle.night_rules.proofs.Stages.{opened_exactly, plan_is, sized, stage_audited, stage_openable, judges}
use Rattle.night_rules.proofs.Second.{activity_last, rhs_last, op_last}
use Rattle.night_rules.proofs.Whole.{first_opens, second_opens}

-- a ≤ b ≤ c
le_trans : {a b c : ℤ} → a ≤ℤ b → b ≤ℤ c → a ≤ℤ c
le_trans {a} {b} {c} h k =
    le_elim k (λ (z : ℤ). a ≤ℤ z)
    (λ m. le_elim h (λ (y : ℤ). a ≤ℤ (y +ℤ pos m)) (λ l. le_by (l + m) (+ℤ_assoc a (pos l) (pos m))))

-- a row that isn't broken, of comparison Le
row_le : (o : ℕ) (r b : ℤ) → o ≡ 0 → not (holds o r b) ≡ false → r ≤ℤ b
unfolding holds
row_le zero r b e h = (le_z_decides r b).yes_so (not-false _ h)
row_le (suc o) r b e h = absurd (omega arith)

-- what an opened sheet that says neither "not a plan" nor "none exists" counts: its verdict is never refused
is_plan : (s : Sheet) → Openable s → {v : Verdict} → VerdictSays s v → ¬ (v ≡ NotPlan) → ¬ (v ≡ NoneExists)
    → IsPlan s.kept
is_plan s g (VerdictSays.size h) k l = absurd (h g.good.sized)
is_plan s g (VerdictSays.over z h) k l = absurd (h (kept_in s z g.good.limits g.good.true_sheet))
is_plan s g (VerdictSays.none z h n) k l = absurd (l refl)
is_plan s g (VerdictSays.not_plan z h n p) k l = absurd (k refl)
is_plan s g (VerdictSays.no_floor z h n p f) k l = p
is_plan s g (VerdictSays.gap z h n p f) k l = p

module _ (n : NightPlan) (a : Arrays) (w : List ℤ) (d : PastFound n a w) where
  abbrev p : Plan
  p = n.plan

  abbrev f : Staged
  f = first_stage n a

  abbrev s : Staged
  s = second_stage n a

  o : Opens n.budget n.tolerance p a
  o = first_opens n a w d

  -- the found cost is the first stage's alarm cost
  pub found_is : found n a ≡ cost p (x f.sheet.plan)
  unfolding cost
  found_is = (stage_openable n.budget n.tolerance p a o).good.true_sheet.c_true
      ∙ rw (plan_is n.budget n.tolerance p a)

  -- ---- the second stage's last row
  module _ (h : ¬ Stands s.stage.audit) where
    t : Opens n.budget n.tolerance (second_plan_of n a) f.arrays
    t = second_opens n a w d h

    judged_as : (v : Verdict) → verdict s.sheet ≡ v → s.stage.audit ≡ Judged v
    judged_as v e =
        let j = (opened_exactly n.budget n.tolerance (second_plan_of n a) f.arrays).1 t in
        j.1 ∙ ap Judged ((judges n.budget n.tolerance (second_plan_of n a) f.arrays j.1).answers ∙ e)

    counted : IsPlan s.sheet.kept
    counted =
        is_plan s.sheet (stage_openable n.budget n.tolerance (second_plan_of n a) f.arrays t)
        (verdict_says s.sheet)
        (λ e. h (subst Stands (sym (judged_as NotPlan e)) not_plan))
        (λ e. h (subst Stands (sym (judged_as NoneExists e)) none_exists_holds))

    abbrev q : Plan
    q = (the_sheet n.budget n.tolerance (second_plan_of n a) f.arrays).plan

    unbroken : broken_rows q ≡ pos 0
    unbroken =
        ap broken_rows (sym (plan_is n.budget n.tolerance (second_plan_of n a) f.arrays))
        ∙ sym (stage_openable n.budget n.tolerance (second_plan_of n a) f.arrays t).good.true_sheet.broken_true
        ∙ counted.0

    last_row : cost p (x q) ≤ℤ found n a
    unfolding broken_rows activity second_plan
    last_row =
        let z = sized n.budget n.tolerance p a o in
        let e = op_last p n.report_costs (found n a) z.coefs_fit z.rhs_fit z.ops_fit in
        let b = count_zero (p.rows + 1) (λ i. broken_at q i (activity q (x q) i)) unbroken p.rows (omega arith) in
        subst (λ (y : ℤ). cost p (x q) ≤ℤ y)
        (rhs_last p n.report_costs (found n a) z.coefs_fit z.rhs_fit z.ops_fit)
        (subst (λ (y : ℤ). y ≤ℤ rhs q p.rows)
        (activity_last p n.report_costs (found n a) z.coefs_fit z.rhs_fit z.ops_fit (x q))
        (row_le (op q p.rows) (activity q (x q) p.rows) (rhs q p.rows) e b))

    second_alarms : cost p (x s.sheet.plan) ≤ℤ cost p (x f.sheet.plan)
    second_alarms =
        subst (λ (y : ℤ). cost p (x s.sheet.plan) ≤ℤ y) found_is
        (subst (λ (y : Plan). cost p (x y) ≤ℤ found n a)
        (sym (plan_is n.budget n.tolerance (second_plan_of n a) f.arrays)) last_row)

  -- ---- the least
  keeps_same : (k : ℕ) (y : ℕ → ℤ) → Keeps p k y → Keeps (the_sheet n.budget n.tolerance p a).plan k y
  unfolding activity
  keeps_same k y h = record {
    le_kept = h.le_kept;
    eq_kept = h.eq_kept;
    ge_kept = h.ge_kept;
    lower_kept = h.lower_kept;
    upper_kept = h.upper_kept;
  }

  module _ (g : ℤ) (e : f.stage.audit ≡ Judged (Gap g)) where
    gapped : Gapped f.sheet g
    gapped = (stage_audited n.budget n.tolerance p a o).gap_means g (judges n.budget n.tolerance p a e)

    least : (k : ℕ) (y : ℕ → ℤ) → Keeps p k y
        → (pos unit *ℤ (pos k *ℤ cost p (x f.sheet.plan) -ℤ cost p y)) ≤ℤ (pos k *ℤ g)
    unfolding cost
    least k y h =
        let b = plan_is n.budget n.tolerance p a in
        rw b (rw b at (gapped.no_cheaper k y (subst (λ (q : Plan). Keeps q k y) (sym b) (keeps_same k y h))))

    -- of any amounts whose alarm cost isn't higher than the first stage's
    not_higher_so : (z : ℕ → ℤ) → cost p z ≤ℤ cost p (x f.sheet.plan) → AlarmsFirst p (x f.sheet.plan) g z
    not_higher_so z l = record {
      not_higher = l;
      near_least = λ k y h.
          le_trans
          (mul_le_mul (pos unit) (nonneg unit)
          (add_le_add (mul_le_mul (pos k) (nonneg k) l) (≤ℤ_refl (neg_ℤ (cost p y))))) (least k y h);
    }

    pub first_alarms : AlarmsFirst p (x f.sheet.plan) g (x f.sheet.plan)
    first_alarms = not_higher_so (x f.sheet.plan) (≤ℤ_refl _)

    pub handed_alarms : ¬ Stands s.stage.audit → AlarmsFirst p (x f.sheet.plan) g (x s.sheet.plan)
    handed_alarms h = not_higher_so (x s.sheet.plan) (second_alarms h)
