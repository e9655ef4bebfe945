-- 01's table: a cell that it doesn't list is the same afterwards, for all kinds. Assumes nothing.
use mathlib.Core.Path.{◌≡◌, refl, sym, ap, ap₂, ◌∙◌}
use mathlib.Core.Logic.{◌⊎◌, inl, inr, ⊎_elim}
use mathlib.Core.Bool.{Bool, true, false, not, ◌&&◌, ◌||◌}
use mathlib.Core.List.{List, [], ◌∷◌}
use Prim.Native.Nat.{ℕ, zero, suc, ◌≤◌, ◌<◌}
use native.Mathlib.Omega.{arith}
use lib.Dec.{eqb, ltb}
use lib.ListN.{get_or}
use lib.IntN.{ℤ, pos, ◌+ℤ◌, ◌-ℤ◌, ◌*ℤ◌, +ℤ_invr, +ℤ_idr, zero-*ℤ}
use borrow.Author.Tests.{eqb-true, eqb-false, ltb-true, ltb-false, lt-ltb, not-false}
use Rattle.doubles.specs.Limits.{unit}
use Rattle.doubles.specs.Loop.{table}
use Rattle.doubles.specs.Lists.{over}
use Rattle.doubles.proofs.Loops.{length_tab}
use Rattle.doubles.proofs.Bools.{by_test}
use Rattle.sheet_rules.specs.Sum.{◌‼◌, bit}
use Rattle.sheet_rules.specs.Sheet.{Plan, Sheet, a, c, x, Y, rhs, broken_at, outside_at, wrong_at, term_at, lacks_at, over_kept}
use Rattle.sheet_rules.specs.Opening.{leaves}
use Rattle.sheet_rules.specs.Verdict.{is_zero}
use Rattle.sheet_rules.specs.Edit.{put, edited, old_number, old_mark, moved_r, moved_d, moved_c, moved_b, moved_broken, moved_outside, moved_wrong, moved_absent, moved, applied, edit_refusal, edit}
use Rattle.sheet_rules.specs.Touches.{Cell, coef, cost, lower, upper, lower_mark, upper_mark, right, op, amount, mult, R, D, C, B, count, read, touches}
use Rattle.sheet_rules.specs.Words.{Index, Takes, Today}
use Rattle.sheet_rules.specs.declared.Edit.{Edit}
use Rattle.sheet_rules.proofs.Sums.{change_none}
use Rattle.sheet_rules.proofs.Bools.{both_not, neither, none_of, all_three}
use Rattle.sheet_rules.proofs.Local.{put_other, column_used, a_column, a_row, c_still}
use Rattle.sheet_rules.proofs.Tests.{zero_decides}
use Rattle.sheet_rules.proofs.Exact.{edit_so}
use Rattle.sheet_rules.proofs.Takes.{takes}
use Rattle.sheet_rules.proofs.Fronts.{front, past}

-- a number that moves by no change
still : (k y z : ℤ) → y ≡ z → k +ℤ (y -ℤ z) ≡ k
still k y z e = rw (e, +ℤ_invr z) (+ℤ_idr k)

times_zero : {y : ℤ} (u v : ℤ) → y ≡ pos 0 → y *ℤ u ≡ y *ℤ v
times_zero u v e = rw e (zero-*ℤ u ∙ sym (zero-*ℤ v))

module _ (s : Sheet) (e : Edit) (ok : Index s.plan e) where
  abbrev p : Plan
  p = s.plan

  abbrev q : Plan
  q = edited s.plan e

  -- the term of row i in the edited column
  row_term : (i : ℕ) → i < p.rows → touches s e (R i) ≡ false → a q i e.column *ℤ x q e.column ≡ a p i e.column *ℤ x p e.column
  unfolding touches edited put
  row_term i l t = by_test (eqb e.kind 1) one other
    where
      t' : ((eqb e.kind 1 && ltb i p.rows && not (is_zero (a p i e.column))) ≡ false) × ((eqb e.kind 6 && eqb i e.row) ≡ false)
      t' = neither _ _ t

      one : eqb e.kind 1 ≡ true → a q i e.column *ℤ x q e.column ≡ a p i e.column *ℤ x p e.column
      one w =
          let k : e.kind ≡ 1 = eqb-true _ _ w in
          let z : a p i e.column ≡ pos 0 = (zero_decides _).yes_so (not-false _ (rw (w, lt-ltb i p.rows l) at t'.0)) in
          let same : a q i e.column ≡ a p i e.column = rw k in
          ap (λ (y : ℤ). y *ℤ x q e.column) same ∙ times_zero (x q e.column) (x p e.column) z

      other : eqb e.kind 1 ≡ false → a q i e.column *ℤ x q e.column ≡ a p i e.column *ℤ x p e.column
      other w = ap₂ ◌*ℤ◌ (by_test (eqb e.kind 6) six (λ v. rw v)) (rw w)
        where
          six : eqb e.kind 6 ≡ true → a q i e.column ≡ a p i e.column
          six v = ⊎_elim (λ h. a_row p e ok i e.column h (eqb-false i e.row (both_not _ _ t'.1 v))) (λ h. ⊎_elim (λ (k : e.kind ≡ 5). rw k) (λ (k : e.kind ≡ 7). rw k) h) (column_used p e ok)

  -- the cost of column j, and its term in the edited row
  price_term : (j : ℕ) → j < p.cols → touches s e (D j) ≡ false → pos unit *ℤ c q j -ℤ a q e.row j *ℤ Y q e.row ≡ pos unit *ℤ c p j -ℤ a p e.row j *ℤ Y p e.row
  unfolding touches edited put
  price_term j l t = ap₂ (λ (y z : ℤ). pos unit *ℤ y -ℤ z) (by_test (eqb e.kind 2) two (λ w. rw w)) (by_test (eqb e.kind 7) seven other)
    where
      t' : (((eqb e.kind 2 || eqb e.kind 6) && eqb j e.column) ≡ false) × ((eqb e.kind 7 && ltb j p.cols && not (is_zero (a p e.row j))) ≡ false)
      t' = neither _ _ t

      two : eqb e.kind 2 ≡ true → c q j ≡ c p j
      two w = c_still p e j (eqb-false j e.column (rw w at t'.0))

      seven : eqb e.kind 7 ≡ true → a q e.row j *ℤ Y q e.row ≡ a p e.row j *ℤ Y p e.row
      seven w =
          let k : e.kind ≡ 7 = eqb-true _ _ w in
          let z : a p e.row j ≡ pos 0 = (zero_decides _).yes_so (not-false _ (rw (w, lt-ltb j p.cols l) at t'.1)) in
          let same : a q e.row j ≡ a p e.row j = rw k in
          ap (λ (y : ℤ). y *ℤ Y q e.row) same ∙ times_zero (Y q e.row) (Y p e.row) z

      other : eqb e.kind 7 ≡ false → a q e.row j *ℤ Y q e.row ≡ a p e.row j *ℤ Y p e.row
      other w = ap₂ ◌*ℤ◌ (by_test (eqb e.kind 6) (λ v. a_column p e ok e.row j l (eqb-false j e.column (rw (eqb-true e.kind 6 v) at t'.0))) (λ v. rw v)) (rw w)

  pub r_still : (i : ℕ) → i < p.rows → touches s e (R i) ≡ false → moved_r s e i ≡ s.kept.R ‼ i
  unfolding moved_r
  r_still i l t = still (s.kept.R ‼ i) _ _ (row_term i l t)

  pub d_still : (j : ℕ) → j < p.cols → touches s e (D j) ≡ false → moved_d s e j ≡ s.kept.D ‼ j
  unfolding moved_d
  d_still j l t = still (s.kept.D ‼ j) _ _ (price_term j l t)

  pub cost_still : touches s e (C 0) ≡ false → moved_c s e ≡ s.kept.C ‼ 0
  unfolding touches moved_c edited put
  cost_still t =
      let h = neither (eqb e.kind 1) (eqb e.kind 2) t in
      still (s.kept.C ‼ 0) (c q e.column *ℤ x q e.column) (c p e.column *ℤ x p e.column) (rw (h.0, h.1))

  -- no price moves under kinds 1 and 5
  prices_still : (e.kind ≡ 1) ⊎ (e.kind ≡ 5) → (j : ℕ) → touches s e (D j) ≡ false
  unfolding touches
  prices_still (inl k) j = rw k
  prices_still (inr k) j = rw k

  pub b_still : touches s e (B 0) ≡ false → moved_b s e ≡ s.kept.B ‼ 0
  unfolding touches moved_b edited put
  b_still t =
      let k : e.kind ≡ 1 = eqb-true _ _ (not-false _ t) in
      ap₂ ◌+ℤ◌
      (still (s.kept.B ‼ 0) (Y q e.row *ℤ rhs q e.row) (Y p e.row *ℤ rhs p e.row) (rw k))
      (change_none p.cols (λ j. term_at p j (s.kept.D ‼ j)) (λ j. term_at q j (moved_d s e j)) (λ j l. rw (d_still j l (prices_still (inl k) j), k)))
      ∙ +ℤ_idr (s.kept.B ‼ 0)

  pub broken_still : touches s e (count 0) ≡ false → moved_broken s e ≡ s.kept.counts ‼ 0
  unfolding touches moved_broken edited put
  broken_still t =
      let h = all_three (eqb e.kind 1) (eqb e.kind 5) (eqb e.kind 6) t in
      ap (λ (z : ℤ). s.kept.counts ‼ 0 +ℤ z)
      (change_none p.rows (λ i. bit (broken_at p i (s.kept.R ‼ i))) (λ i. bit (broken_at q i (moved_r s e i))) (λ i l. rw (r_still i l (rw (h.0, h.2)), h.1)))
      ∙ +ℤ_idr (s.kept.counts ‼ 0)

  pub outside_still : touches s e (count 1) ≡ false → moved_outside s e ≡ s.kept.counts ‼ 1
  unfolding touches moved_outside edited put
  outside_still t =
      let h = neither (eqb e.kind 1 || eqb e.kind 3 || eqb e.kind 4 || eqb e.kind 8) (eqb e.kind 9) t in
      let g = neither (eqb e.kind 1 || eqb e.kind 3 || eqb e.kind 4) (eqb e.kind 8) h.0 in
      let f = all_three (eqb e.kind 1) (eqb e.kind 3) (eqb e.kind 4) g.0 in
      still (s.kept.counts ‼ 1) (bit (outside_at q e.column)) (bit (outside_at p e.column)) (rw (f.0, f.1, f.2, g.1, h.1))

  pub wrong_still : touches s e (count 2) ≡ false → moved_wrong s e ≡ s.kept.counts ‼ 2
  unfolding touches moved_wrong edited put
  wrong_still t =
      let h : eqb e.kind 7 ≡ false = t in
      still (s.kept.counts ‼ 2) (bit (wrong_at q e.row)) (bit (wrong_at p e.row)) (rw h)

  pub absent_still : touches s e (count 3) ≡ false → moved_absent s e ≡ s.kept.counts ‼ 3
  unfolding touches moved_absent edited put
  absent_still t =
      let k : (e.kind ≡ 1) ⊎ (e.kind ≡ 5) = ⊎_elim (λ h. inl (eqb-true _ _ h)) (λ h. inr (eqb-true _ _ h)) (none_of (eqb e.kind 1) (eqb e.kind 5) t) in
      ap (λ (z : ℤ). s.kept.counts ‼ 3 +ℤ z)
      (change_none p.cols (λ j. bit (lacks_at p j (s.kept.D ‼ j))) (λ j. bit (lacks_at q j (moved_d s e j)))
      (λ j l. rw (d_still j l (prices_still k j)) (⊎_elim (λ (w : e.kind ≡ 1). rw w) (λ (w : e.kind ≡ 5). rw w) k)))
      ∙ +ℤ_idr (s.kept.counts ‼ 3)

-- ---- what an array of kept numbers reads
kept_at : (n : ℕ) (f : ℕ → ℤ) (l : List ℤ) (k : ℕ) → (k < n → f k ≡ l ‼ k) → over (table n f) l ‼ k ≡ l ‼ k
kept_at n f l k h = by_test (ltb k n) (λ w. front n f l k (ltb-true k n w) ∙ h (ltb-true k n w)) (λ w. past (table n f) l k (rw (length_tab n 0 f) (ltb-false k n w)))

put_untouched : {A : Type 0} (b : Bool) (i k : ℕ) (v d : A) (l : List A) → (b && eqb k i) ≡ false → get_or (put b i v l) k d ≡ get_or l k d
unfolding put
put_untouched true i k v d l t = put_other true i k v d l (eqb-false k i t)
put_untouched false i k v d l t = refl

put_twice : {A : Type 0} (b g : Bool) (i k : ℕ) (v w d : A) (l : List A) → ((b || g) && eqb k i) ≡ false → get_or (put g i w (put b i v l)) k d ≡ get_or l k d
unfolding put
put_twice true g i k v w d l t = put_other g i k w d (put true i v l) (eqb-false k i t) ∙ put_other true i k v d l (eqb-false k i t)
put_twice false g i k v w d l t = put_untouched g i k w d l t

module _ (s : Sheet) (e : Edit) (ok : Index s.plan e) where
  untouched : (z : Cell) → touches s e z ≡ false → read (applied s e) z ≡ read s z
  unfolding touches read applied edited moved over_kept
  untouched (coef k) t = put_untouched _ _ k _ _ _ t
  untouched (cost k) t = put_untouched _ _ k _ _ _ t
  untouched (lower k) t = put_twice _ _ _ k _ _ _ _ t
  untouched (upper k) t = put_twice _ _ _ k _ _ _ _ t
  untouched (lower_mark k) t = ap pos (put_twice _ _ _ k _ _ _ _ t)
  untouched (upper_mark k) t = ap pos (put_twice _ _ _ k _ _ _ _ t)
  untouched (right k) t = put_untouched _ _ k _ _ _ t
  untouched (op k) t = refl
  untouched (amount k) t = put_untouched _ _ k _ _ _ t
  untouched (mult k) t = put_untouched _ _ k _ _ _ t
  untouched (R k) t = kept_at s.plan.rows (moved_r s e) s.kept.R k (λ l. r_still s e ok k l t)
  untouched (D k) t = kept_at s.plan.cols (moved_d s e) s.kept.D k (λ l. d_still s e ok k l t)
  untouched (C zero) t = cost_still s e ok t
  untouched (C (suc k)) t = past (moved_c s e ∷ []) s.kept.C (suc k) (omega arith)
  untouched (B zero) t = b_still s e ok t
  untouched (B (suc k)) t = past (moved_b s e ∷ []) s.kept.B (suc k) (omega arith)
  untouched (count zero) t = broken_still s e ok t
  untouched (count (suc zero)) t = outside_still s e ok t
  untouched (count (suc (suc zero))) t = wrong_still s e ok t
  untouched (count (suc (suc (suc zero)))) t = absent_still s e ok t
  untouched (count (suc (suc (suc (suc k))))) t = past (moved_broken s e ∷ moved_outside s e ∷ moved_wrong s e ∷ moved_absent s e ∷ []) s.kept.counts (suc (suc (suc (suc k)))) (omega arith)

-- ---- a cell that 01's table doesn't list is the same after the edit, whatever its kind; after a refused edit every cell is
pub cell_stays : (s : Sheet) (e : Edit) (z : Cell) → touches s e z ≡ false → read (edit s e) z ≡ read s z
unfolding edit
cell_stays s e z t = at (edit_refusal s e) refl
  where
    at : (n : ℕ) → edit_refusal s e ≡ n → read (leaves n (applied s e) s) z ≡ read s z
    at zero w = untouched s e (edit_so s e w).0.index z t
    at (suc n) w = refl

-- ---- an accepted edit's cell takes the number handed in, and its mark
pub cell_takes : (s : Sheet) (e : Edit) → edit_refusal s e ≡ 0 → Takes e (edit s e).plan
unfolding edit applied
cell_takes s e w = let h = (edit_so s e w).0 in rw w (takes s e h.sized h.index)

-- ---- the reader of the edited cell reads what the edit wrote
pub reader_reads : (s : Sheet) (e : Edit) → edit_refusal s e ≡ 0
    → (e.kind ≤ 7 → (old_number (edit s e).plan e ≡ e.number) × (old_mark (edit s e).plan e ≡ 1))
    × (8 ≤ e.kind → (old_number (edit s e).plan e ≡ pos 0) × (old_mark (edit s e).plan e ≡ 0))
unfolding old_number old_mark
reader_reads s e w = at (cell_takes s e w) (edit_so s e w).0.today e.kind refl
  where
    at : {q : Plan} → Takes e q → Today e → (k : ℕ) → e.kind ≡ k → (e.kind ≤ 7 → (old_number q e ≡ e.number) × (old_mark q e ≡ 1)) × (8 ≤ e.kind → (old_number q e ≡ pos 0) × (old_mark q e ≡ 0))
    at t y zero k = absurd (omega (arith, y.first))
    at t y (suc zero) k = (λ _. (rw k (t.amount_taken k), rw k), λ l. absurd (omega arith))
    at t y (suc (suc zero)) k = (λ _. (rw k (t.cost_taken k), rw k), λ l. absurd (omega arith))
    at t y (suc (suc (suc zero))) k = (λ _. (rw k (t.lower_taken k).0, rw k (t.lower_taken k).1), λ l. absurd (omega arith))
    at t y (suc (suc (suc (suc zero)))) k = (λ _. (rw k (t.upper_taken k).0, rw k (t.upper_taken k).1), λ l. absurd (omega arith))
    at t y (suc (suc (suc (suc (suc zero))))) k = (λ _. (rw k (t.right_taken k), rw k), λ l. absurd (omega arith))
    at t y (suc (suc (suc (suc (suc (suc zero)))))) k = (λ _. (rw k (t.coef_taken k), rw k), λ l. absurd (omega arith))
    at t y (suc (suc (suc (suc (suc (suc (suc zero))))))) k = (λ _. (rw k (t.mult_taken k), rw k), λ l. absurd (omega arith))
    at t y (suc (suc (suc (suc (suc (suc (suc (suc zero)))))))) k = (λ l. absurd (omega arith), λ _. (rw k (t.lower_dropped k).0, rw k (t.lower_dropped k).1))
    at t y (suc (suc (suc (suc (suc (suc (suc (suc (suc zero))))))))) k = (λ l. absurd (omega arith), λ _. (rw k (t.upper_dropped k).0, rw k (t.upper_dropped k).1))
    at t y (suc (suc (suc (suc (suc (suc (suc (suc (suc (suc n)))))))))) k = absurd (omega (arith, y.last))
