-- Lengths and limits stay under an accepted edit. Assumes nothing.
use mathlib.Core.Path.{◌≡◌, refl, subst}
use mathlib.Core.Logic.{inl, inr}
use mathlib.Core.Bool.{Bool, true, false}
use mathlib.Core.List.{List, [], ◌∷◌}
use Prim.Native.Nat.{ℕ, zero, suc, ◌≤◌, ◌<◌}
use native.Mathlib.Omega.{arith}
use lib.Dec.{eqb}
use lib.ListN.{length, get_or, set, length-set}
use lib.Seq.{get_or-set_same}
use lib.IntN.{ℤ, pos, nat_abs}
use borrow.Author.Tests.{eqb-true, eqb-false}
use Rattle.doubles.specs.Limits.{max_coefficient, max_bound}
use Rattle.doubles.specs.Lists.{◌#◌}
use Rattle.doubles.proofs.Loops.{length_tab}
use Rattle.doubles.proofs.Bools.{by_test}
use Rattle.sheet_rules.specs.Sum.{◌‼◌}
use Rattle.sheet_rules.specs.Sheet.{Plan, Kept, Sheet, sheet_of, over_kept}
use Rattle.sheet_rules.specs.Edit.{put, edited, moved, applied, moved_r, moved_d}
use Rattle.sheet_rules.specs.Words.{Sized, Bound, Arrays, Limits, Crossed, Crossing, Index, NumberIn, WouldCross}
use Rattle.sheet_rules.specs.declared.Edit.{Edit}
use Rattle.sheet_rules.proofs.Fronts.{over_length}
use Rattle.sheet_rules.proofs.Takes.{takes}
use Rattle.sheet_rules.proofs.Tests.{crosses_so}
use Rattle.sheet_rules.proofs.Local.{put_other, lower_still, upper_still, lower_mark_still, upper_mark_still}

-- ---- lengths stay
pub put_length : {A : Type 0} (b : Bool) (i : ℕ) (v : A) (l : List A) → length (put b i v l) ≡ length l
unfolding put
put_length true i v l = length-set l i v
put_length false i v l = refl

-- kept numbers written over those of a sheet
pub over_sized : (p : Plan) (f k : Kept) → (length f.R ≡ p.rows) × (length f.D ≡ p.cols) × (length f.C ≡ 1) × (length f.B ≡ 1) × (length f.counts ≡ 4) → Sized (sheet_of p k) → Sized (sheet_of p (over_kept f k))
unfolding over_kept
over_sized p f k h z = record {
  rows_fit = z.rows_fit;
  cols_fit = z.cols_fit;
  coefs_fit = z.coefs_fit;
  costs_fit = z.costs_fit;
  lowers_fit = z.lowers_fit;
  uppers_fit = z.uppers_fit;
  lower_marks_fit = z.lower_marks_fit;
  upper_marks_fit = z.upper_marks_fit;
  rhs_fit = z.rhs_fit;
  ops_fit = z.ops_fit;
  amounts_fit = z.amounts_fit;
  mults_fit = z.mults_fit;
  r_fits = rw (over_length f.R k.R (rw h.0 z.r_fits)) z.r_fits;
  d_fits = rw (over_length f.D k.D (rw h.1 z.d_fits)) z.d_fits;
  c_fits = rw (over_length f.C k.C (rw h.2 z.c_fits)) z.c_fits;
  b_fits = rw (over_length f.B k.B (rw h.3 z.b_fits)) z.b_fits;
  counts_fit = rw (over_length f.counts k.counts (rw h.4 z.counts_fit)) z.counts_fit;
}

edited_sized : (s : Sheet) (e : Edit) → Sized s → Sized (sheet_of (edited s.plan e) s.kept)
unfolding edited
edited_sized s e z = record {
  rows_fit = z.rows_fit;
  cols_fit = z.cols_fit;
  coefs_fit = rw put_length z.coefs_fit;
  costs_fit = rw put_length z.costs_fit;
  lowers_fit = simp put_length z.lowers_fit;
  uppers_fit = simp put_length z.uppers_fit;
  lower_marks_fit = simp put_length z.lower_marks_fit;
  upper_marks_fit = simp put_length z.upper_marks_fit;
  rhs_fit = rw put_length z.rhs_fit;
  ops_fit = z.ops_fit;
  amounts_fit = rw put_length z.amounts_fit;
  mults_fit = rw put_length z.mults_fit;
  r_fits = z.r_fits;
  d_fits = z.d_fits;
  c_fits = z.c_fits;
  b_fits = z.b_fits;
  counts_fit = z.counts_fit;
}

pub applied_sized : (s : Sheet) (e : Edit) → Sized s → Sized (applied s e)
unfolding applied edited moved
applied_sized s e z = over_sized (edited s.plan e) (moved s e) s.kept (length_tab s.plan.rows 0 (moved_r s e), length_tab s.plan.cols 0 (moved_d s e), refl, refl, refl) (edited_sized s e z)

-- ---- limits stay
-- what holds of the number put and of each number there holds of each afterwards
set_at : {A : Type 0} (P : A → Type 0) (l : List A) (i k : ℕ) (v d : A) → P v → P (get_or l k d) → P (get_or (set l i v) k d)
set_at P [] i k v d h g = g
set_at P (y ∷ l) zero zero v d h g = h
set_at P (y ∷ l) zero (suc k) v d h g = g
set_at P (y ∷ l) (suc i) zero v d h g = g
set_at P (y ∷ l) (suc i) (suc k) v d h g = set_at P l i k v d h g

put_at_holds : (m : ℕ) (b : Bool) (i k : ℕ) (v : ℤ) (l : List ℤ) → (b ≡ true → nat_abs v ≤ m) → nat_abs (l ‼ k) ≤ m → nat_abs (put b i v l ‼ k) ≤ m
unfolding put
put_at_holds m true i k v l h g = set_at (λ (z : ℤ). nat_abs z ≤ m) l i k v (pos 0) (h refl) g
put_at_holds m false i k v l h g = g

-- the bounds: kind `dropped` leaves that of column i absent with number 0, kind `new` present, and no other kind touches it
put_bounds : (dropped new : Bool) (i : ℕ) (v : ℤ) (l : List ℤ) (m : List ℕ) (n : ℕ) → n ≤ length l → n ≤ length m → (new ≡ true → nat_abs v ≤ max_bound) → ((j : ℕ) → j < n → Bound (m # j) (l ‼ j))
    → (j : ℕ) → j < n → Bound (put dropped i 0 (put new i 1 m) # j) (put dropped i (pos 0) (put new i v l) ‼ j)
unfolding put
put_bounds dropped new i v l m n g h w b j k = by_test (eqb j i) (λ u. rw (eqb-true j i u) (here (rw (eqb-true j i u) at k) dropped new w)) (λ u. rw (put_other dropped i j 0 0 (put new i 1 m) (eqb-false j i u), put_other new i j 1 0 m (eqb-false j i u), put_other dropped i j (pos 0) (pos 0) (put new i v l) (eqb-false j i u), put_other new i j v (pos 0) l (eqb-false j i u)) (b j k))
  where
    here : i < n → (dropped new : Bool) → (new ≡ true → nat_abs v ≤ max_bound) → Bound (put dropped i 0 (put new i 1 m) # i) (put dropped i (pos 0) (put new i v l) ‼ i)
    here k true new w = rw (get_or-set_same (put new i 1 m) i 0 0 (rw put_length (omega arith)), get_or-set_same (put new i v l) i (pos 0) (pos 0) (rw put_length (omega arith))) (record { known = omega arith; small = omega arith; absent = λ _. omega arith })
    here k false true w = rw (get_or-set_same m i 1 0 (omega arith), get_or-set_same l i v (pos 0) (omega arith)) (record { known = omega arith; small = w refl; absent = λ u. absurd (omega arith) })
    here k false false w = b i k

pub edited_arrays : (s : Sheet) (e : Edit) → Sized s → NumberIn e → Arrays s.plan → Arrays (edited s.plan e)
unfolding edited
edited_arrays s e z n l = record {
  costs_in = λ k h. put_at_holds _ _ _ k _ _ (λ w. n.cost_in (eqb-true _ _ w)) (l.costs_in k h);
  lowers_in = put_bounds _ _ _ _ _ _ _ z.lowers_fit z.lower_marks_fit (λ w. n.lower_in (eqb-true _ _ w)) l.lowers_in;
  uppers_in = put_bounds _ _ _ _ _ _ _ z.uppers_fit z.upper_marks_fit (λ w. n.upper_in (eqb-true _ _ w)) l.uppers_in;
  rhs_in = λ k h. put_at_holds _ _ _ k _ _ (λ w. n.right_in (eqb-true _ _ w)) (l.rhs_in k h);
  ops_in = l.ops_in;
  amounts_in = λ k h. put_at_holds _ _ _ k _ _ (λ w. n.amount_in (eqb-true _ _ w)) (l.amounts_in k h);
  mults_in = λ k h. put_at_holds _ _ _ k _ _ (λ w. n.mult_in (eqb-true _ _ w)) (l.mults_in k h);
}

pub edited_coef : (p : Plan) (e : Edit) → NumberIn e → (k : ℕ) → nat_abs (p.coefs ‼ k) ≤ max_coefficient → nat_abs ((edited p e).coefs ‼ k) ≤ max_coefficient
unfolding edited
edited_coef p e n k h = put_at_holds max_coefficient _ _ k _ _ (λ w. n.coef_in (eqb-true _ _ w)) h

pub edited_limits : (s : Sheet) (e : Edit) → Sized s → NumberIn e → Limits s.plan → Limits (edited s.plan e)
unfolding edited
edited_limits s e z n l = record { coefs_in = λ k h. edited_coef s.plan e n k (l.coefs_in k h); arrays_in = edited_arrays s e z n l.arrays_in }

-- ---- bounds stay uncrossed
module _ (s : Sheet) (e : Edit) (z : Sized s) (i : Index s.plan e) (would : ¬ WouldCross s.plan e) where
  -- the edited column: kinds 3 and 4 would cross, 8 and 9 leave a bound absent, the others leave both
  here : Crossed (edited s.plan e) e.column → (Crossed s.plan e.column → ⊥) → ⊥
  unfolding edited put
  here w h =
      by_test (eqb e.kind 3) (λ a. would (crosses_so s e z i w (inl (eqb-true _ _ a)))) (λ a.
      by_test (eqb e.kind 4) (λ b. would (crosses_so s e z i w (inr (eqb-true _ _ b)))) (λ b.
      by_test (eqb e.kind 8) (λ c. absent ((takes s e z i).lower_dropped (eqb-true _ _ c)).1 w.lower_present) (λ c.
      by_test (eqb e.kind 9) (λ d. absent ((takes s e z i).upper_dropped (eqb-true _ _ d)).1 w.upper_present) (λ d.
      h (record { lower_present = rw (a, c) at w.lower_present; upper_present = rw (b, d) at w.upper_present; above = rw (a, b, c, d) at w.above })))))
    where
      absent : {m : ℕ} → m ≡ 0 → m ≡ 1 → ⊥
      absent f g = omega arith

  pub edited_uncrossed : ¬ Crossing s.plan → ¬ Crossing (edited s.plan e)
  unfolding edited
  edited_uncrossed h w =
      by_test (eqb w.0 e.column)
      (λ u. here (subst (Crossed (edited s.plan e)) (eqb-true _ _ u) w.2) (λ c. h (e.column, subst (λ (j : ℕ). j < s.plan.cols) (eqb-true _ _ u) w.1, c)))
      (λ u.
      let ne = eqb-false w.0 e.column u in
      h (
        w.0,
        w.1,
        record {
          lower_present = rw (lower_mark_still s.plan e w.0 ne) at w.2.lower_present;
          upper_present = rw (upper_mark_still s.plan e w.0 ne) at w.2.upper_present;
          above = rw (lower_still s.plan e w.0 ne, upper_still s.plan e w.0 ne) at w.2.above;
        },
      ))
