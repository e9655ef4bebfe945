-- Opening and every edit leave a true sheet within its limits, and 14 is never given on such a sheet. Assumes nothing.
use mathlib.Core.Path.{◌≡◌, refl, ◌∙◌}
use mathlib.Core.List.{List, [], ◌∷◌}
use Prim.Native.Nat.{ℕ, zero, suc, ◌<◌}
use native.Mathlib.Omega.{arith}
use lib.IntN.{ℤ}
use Rattle.doubles.specs.Loop.{table}
use Rattle.doubles.specs.Lists.{over}
use Rattle.doubles.proofs.Loops.{length_tab}
use Rattle.sheet_rules.specs.Sum.{◌‼◌}
use Rattle.sheet_rules.specs.Sheet.{Sheet, True, kept_of, sheet_of, activity, price, x, cost, floor, broken_rows, outside_amounts, wrong_signs, absent_needed, fresh, over_kept}
use Rattle.sheet_rules.specs.Opening.{leaves, opening, opened}
use Rattle.sheet_rules.specs.Edit.{edited, applied, edit_refusal, edit}
use Rattle.sheet_rules.specs.Verdict.{verdict}
use Rattle.sheet_rules.specs.Words.{Good, Openable, Crossing, Sized, Limits, Index, NumberIn, Sound, OpeningSays, EditSays, VerdictSays}
use Rattle.sheet_rules.specs.declared.Edit.{Edit}
use Rattle.sheet_rules.specs.declared.Verdict.{Verdict}
use Rattle.sheet_rules.specs.declared.Verdict.TheVariants.{Refused}
use Rattle.sheet_rules.proofs.Local.{place_in}
use Rattle.sheet_rules.proofs.Stays.{over_sized, applied_sized, edited_limits, edited_uncrossed}
use Rattle.sheet_rules.proofs.Exact.{opening_only, opening_so, edit_says, edit_so, verdict_says, left_new}
use Rattle.sheet_rules.proofs.KeptSizes.{kept_in}
use Rattle.sheet_rules.proofs.Fronts.{front, over_there, front_there}
use Rattle.sheet_rules.proofs.TrueSheet.{applied_true}

-- ---- opening and edits
pub opened_good : (s : Sheet) → opening s ≡ 0 → Openable (opened s)
unfolding opened fresh over_kept
opened_good s o = rw o (record {
  good = record {
    sized = over_sized s.plan (fresh s.plan) s.kept (length_tab s.plan.rows 0 _, length_tab s.plan.cols 0 _, refl, refl, refl) w.0;
    limits = w.1;
    true_sheet = record {
      r_true = λ i l. front s.plan.rows (activity s.plan (x s.plan)) s.kept.R i l;
      d_true = λ j l. front s.plan.cols (price s.plan) s.kept.D j l;
      c_true = refl;
      b_true = refl;
      broken_true = refl;
      outside_true = refl;
      wrong_true = refl;
      absent_true = refl;
    };
  };
  uncrossed = w.2;
})
  where
    w : Sized s × Limits s.plan × (¬ Crossing s.plan)
    w = opening_so s o

applied_good : (s : Sheet) (e : Edit) → Index s.plan e → NumberIn e → Good s → Good (applied s e)
unfolding applied
applied_good s e i n g = record {
  sized = applied_sized s e g.sized;
  limits = edited_limits s e g.sized n g.limits;
  true_sheet = applied_true s e i g.true_sheet;
}

pub edit_good : (s : Sheet) (e : Edit) → Openable s → Openable (edit s e)
unfolding edit applied
edit_good s e o = at (edit_refusal s e) refl
  where
    at : (n : ℕ) → edit_refusal s e ≡ n → Openable (leaves n (applied s e) s)
    at zero w =
        let h = edit_so s e w in
        let i = h.0.index in
        record {
          good = applied_good s e i h.1 o.good;
          uncrossed = edited_uncrossed s e o.good.sized i h.2 o.uncrossed;
        }
    at (suc n) w = o

-- opening would accept it again
pub reopens : (s : Sheet) → Openable s → opening s ≡ 0
reopens s o = opening_only s (OpeningSays.accepted o.good.sized o.good.limits o.uncrossed)

-- the kept numbers of a true sheet are those worked out afresh, written over their arrays: no cell differs
pub good_afresh : (s : Sheet) → Good s → over_kept (fresh s.plan) s.kept ≡ s.kept
unfolding over_kept fresh
good_afresh s g = λ i. kept_of (r i) (d i) (c i) (b i) (n i)
  where
    t : True s
    t = g.true_sheet

    r : over (table s.plan.rows (activity s.plan (x s.plan))) s.kept.R ≡ s.kept.R
    r = front_there s.plan.rows (activity s.plan (x s.plan)) s.kept.R g.sized.r_fits t.r_true

    d : over (table s.plan.cols (price s.plan)) s.kept.D ≡ s.kept.D
    d = front_there s.plan.cols (price s.plan) s.kept.D g.sized.d_fits t.d_true

    one : (v : ℤ) (l : List ℤ) → l ‼ 0 ≡ v → (k : ℕ) → k < 1 → l ‼ k ≡ (v ∷ []) ‼ k
    one v l e zero h = e
    one v l e (suc k) h = absurd (omega arith)

    c : over (cost s.plan (x s.plan) ∷ []) s.kept.C ≡ s.kept.C
    c = over_there (cost s.plan (x s.plan) ∷ []) s.kept.C g.sized.c_fits (one _ s.kept.C t.c_true)

    b : over (floor s.plan ∷ []) s.kept.B ≡ s.kept.B
    b = over_there (floor s.plan ∷ []) s.kept.B g.sized.b_fits (one _ s.kept.B t.b_true)

    counts : List ℤ
    counts = broken_rows s.plan ∷ outside_amounts s.plan ∷ wrong_signs s.plan ∷ absent_needed s.plan ∷ []

    four : (k : ℕ) → k < 4 → s.kept.counts ‼ k ≡ counts ‼ k
    four zero h = t.broken_true
    four (suc zero) h = t.outside_true
    four (suc (suc zero)) h = t.wrong_true
    four (suc (suc (suc zero))) h = t.absent_true
    four (suc (suc (suc (suc k)))) h = absurd (omega arith)

    n : over counts s.kept.counts ≡ s.kept.counts
    n = over_there counts s.kept.counts g.sized.counts_fit four

-- so opening it leaves every cell
pub opened_alike : (s : Sheet) → Openable s → opened s ≡ s
unfolding opened
opened_alike s o = left_new _ _ s (reopens s o) ∙ (λ i. sheet_of s.plan (good_afresh s o.good i))

-- ---- 01: "14 is never given on a true sheet"
good_sound : (s : Sheet) (e : Edit) → Index s.plan e → Good s → Sound e s
good_sound s e i g = record {
  arrays_in = g.limits.arrays_in;
  column_in_holds = λ u k h. g.limits.coefs_in _ (place_in k s.plan.rows e.column s.plan.cols h (i.column_in_holds u));
  row_within = λ u k h. g.limits.coefs_in _ (place_in e.row s.plan.rows k s.plan.cols (i.row_within u) h);
  kept_in = kept_in s g.sized g.limits g.true_sheet;
}

same_index : (s : Sheet) (e : Edit) → Index s.plan e → Index (applied s e).plan e
unfolding applied edited
same_index s e i = record { column_in_holds = i.column_in_holds; row_within = i.row_within }

edit_broken : (s : Sheet) (e : Edit) {n : ℕ} → EditSays s e n → n ≡ 14 → Good s → ⊥
edit_broken s e (EditSays.unknown h) w g = omega arith
edit_broken s e (EditSays.later h k) w g = omega arith
edit_broken s e (EditSays.size h k) w g = omega arith
edit_broken s e (EditSays.number h k) w g = omega arith
edit_broken s e (EditSays.crossed h n k) w g = omega arith
edit_broken s e (EditSays.broken h n c k) w g = k (good_sound s e h.index g, good_sound (applied s e) e (same_index s e h.index) (applied_good s e h.index n g))
edit_broken s e (EditSays.accepted h n c k m) w g = omega arith

pub edit_never_14 : (s : Sheet) (e : Edit) → Good s → edit_refusal s e ≡ 14 → ⊥
edit_never_14 s e g w = edit_broken s e (edit_says s e) w g

over_size : (s : Sheet) {v : Verdict} → VerdictSays s v → v ≡ Refused 14 → Good s → ⊥
over_size s (VerdictSays.size h) w g = let q : ◌≡◌ {A = ℕ} 11 14 = cc in omega arith
over_size s (VerdictSays.over z h) w g = h (kept_in s g.sized g.limits g.true_sheet)
over_size s (VerdictSays.none z k n) w g = let q : ◌≡◌ {A = ℕ} 0 1 = cc in omega arith
over_size s (VerdictSays.not_plan z k n h) w g = let q : ◌≡◌ {A = ℕ} 0 1 = cc in omega arith
over_size s (VerdictSays.no_floor z k n p h) w g = let q : ◌≡◌ {A = ℕ} 0 1 = cc in omega arith
over_size s (VerdictSays.gap z k n p h) w g = let q : ◌≡◌ {A = ℕ} 0 1 = cc in omega arith

pub verdict_never_14 : (s : Sheet) → Good s → verdict s ≡ Refused 14 → ⊥
verdict_never_14 s g w = over_size s (verdict_says s) w g
