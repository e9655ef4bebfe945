-- The moved numbers of each kind, as the code reckons them: by the difference of the new and the old number, and of one column or one row where no other
-- changes. What a kind doesn't touch is in Touched.antt. Assumes nothing.
use mathlib.Core.Path.{◌≡◌, refl, ap, ap₂, ◌∙◌}
use mathlib.Core.Bool.{Bool, true, false, ◌&&◌, ◌||◌}
use Prim.Native.Nat.{ℕ, ◌<◌}
use lib.Dec.{eqb}
use lib.IntN.{ℤ, pos, neg_ℤ, ◌+ℤ◌, ◌-ℤ◌, ◌*ℤ◌, +ℤ_invr, +ℤ_idr}
use borrow.Author.Tests.{ne_eqb}
use Rattle.doubles.specs.Limits.{unit}
use Rattle.sheet_rules.specs.Sum.{◌‼◌, sum, bit}
use Rattle.sheet_rules.specs.Sheet.{Plan, Sheet, a, c, x, Y, broken_at, term_at, lacks_at}
use Rattle.sheet_rules.specs.Edit.{put, edited, moved_r, moved_d}
use Rattle.sheet_rules.specs.Touches.{R, D, touches}
use Rattle.sheet_rules.specs.Words.{Sized, Index, Takes}
use Rattle.sheet_rules.specs.declared.Edit.{Edit}
use Rattle.sheet_rules.proofs.Ring.{times_change, change_times, ring}
use Rattle.sheet_rules.proofs.Sums.{change_one}
use Rattle.sheet_rules.proofs.Local.{lower_still, upper_still, lower_mark_still, upper_mark_still, rhs_still}
use Rattle.sheet_rules.proofs.Takes.{takes}
use Rattle.sheet_rules.proofs.Touched.{r_still, d_still}

-- (v - t) - (u - t), and (y - v) - (y - u)
without : (v u t : ℤ) → v -ℤ t -ℤ (u -ℤ t) ≡ v -ℤ u
without v u t = regroup ∙ ap (λ (w : ℤ). v -ℤ u +ℤ w) (+ℤ_invr t) ∙ +ℤ_idr (v -ℤ u)
  where
    regroup : v -ℤ t -ℤ (u -ℤ t) ≡ v -ℤ u +ℤ (t -ℤ t)
    regroup = simp ring

within : (y v u : ℤ) → y -ℤ v -ℤ (y -ℤ u) ≡ neg_ℤ (v -ℤ u)
within y v u = regroup ∙ ap (λ (w : ℤ). neg_ℤ (v -ℤ u) +ℤ w) (+ℤ_invr y) ∙ +ℤ_idr (neg_ℤ (v -ℤ u))
  where
    regroup : y -ℤ v -ℤ (y -ℤ u) ≡ neg_ℤ (v -ℤ u) +ℤ (y -ℤ y)
    regroup = simp ring

and_none : (b : Bool) → (b && false) ≡ false
and_none true = refl
and_none false = refl

or_none : (b : Bool) → b ≡ false → (b || false) ≡ false
or_none b h = rw h

module _ (s : Sheet) (e : Edit) (z : Sized s) (i : Index s.plan e) where
  abbrev p : Plan
  p = s.plan

  abbrev q : Plan
  q = edited s.plan e

  t : Takes e q
  t = takes s e z i

  -- ---- kind 1
  pub amount_r : e.kind ≡ 1 → (k : ℕ) → moved_r s e k ≡ s.kept.R ‼ k +ℤ a p k e.column *ℤ (e.number -ℤ x p e.column)
  unfolding moved_r edited put
  amount_r w k =
      let same : a q k e.column ≡ a p k e.column = rw w in
      ap (λ (d : ℤ). s.kept.R ‼ k +ℤ d) (ap₂ (λ (y v : ℤ). y *ℤ v -ℤ a p k e.column *ℤ x p e.column) same (t.amount_taken w) ∙ times_change (a p k e.column) e.number (x p e.column))

  -- ---- kind 2
  pub cost_d : e.kind ≡ 2 → moved_d s e e.column ≡ s.kept.D ‼ e.column +ℤ pos unit *ℤ (e.number -ℤ c p e.column)
  unfolding moved_d edited put
  cost_d w =
      let same : a q e.row e.column *ℤ Y q e.row ≡ a p e.row e.column *ℤ Y p e.row = rw w in
      ap (λ (d : ℤ). s.kept.D ‼ e.column +ℤ d)
      (ap₂ (λ (v y : ℤ). pos unit *ℤ v -ℤ y -ℤ (pos unit *ℤ c p e.column -ℤ a p e.row e.column *ℤ Y p e.row)) (t.cost_taken w) same
      ∙ without (pos unit *ℤ e.number) (pos unit *ℤ c p e.column) (a p e.row e.column *ℤ Y p e.row)
      ∙ times_change (pos unit) e.number (c p e.column))

  -- ---- kind 6
  pub coef_r : e.kind ≡ 6 → moved_r s e e.row ≡ s.kept.R ‼ e.row +ℤ (e.number -ℤ a p e.row e.column) *ℤ x p e.column
  unfolding moved_r edited put
  coef_r w =
      let same : x q e.column ≡ x p e.column = rw w in
      ap (λ (d : ℤ). s.kept.R ‼ e.row +ℤ d) (ap₂ (λ (v y : ℤ). v *ℤ y -ℤ a p e.row e.column *ℤ x p e.column) (t.coef_taken w) same ∙ change_times (x p e.column) e.number (a p e.row e.column))

  pub coef_d : e.kind ≡ 6 → moved_d s e e.column ≡ s.kept.D ‼ e.column -ℤ (e.number -ℤ a p e.row e.column) *ℤ Y p e.row
  unfolding moved_d edited put
  coef_d w =
      let cost : pos unit *ℤ c q e.column ≡ pos unit *ℤ c p e.column = rw w in
      let mult : Y q e.row ≡ Y p e.row = rw w in
      ap (λ (d : ℤ). s.kept.D ‼ e.column +ℤ d)
      (ap₂ (λ (y v : ℤ). y -ℤ v -ℤ (pos unit *ℤ c p e.column -ℤ a p e.row e.column *ℤ Y p e.row)) cost (ap₂ ◌*ℤ◌ (t.coef_taken w) mult)
      ∙ within (pos unit *ℤ c p e.column) (e.number *ℤ Y p e.row) (a p e.row e.column *ℤ Y p e.row)
      ∙ ap neg_ℤ (change_times (Y p e.row) e.number (a p e.row e.column)))

  -- ---- kind 7
  pub mult_d : e.kind ≡ 7 → (j : ℕ) → moved_d s e j ≡ s.kept.D ‼ j -ℤ a p e.row j *ℤ (e.number -ℤ Y p e.row)
  unfolding moved_d edited put
  mult_d w j =
      let cost : pos unit *ℤ c q j ≡ pos unit *ℤ c p j = rw w in
      let coef : a q e.row j ≡ a p e.row j = rw w in
      ap (λ (d : ℤ). s.kept.D ‼ j +ℤ d)
      (ap₂ (λ (y v : ℤ). y -ℤ v -ℤ (pos unit *ℤ c p j -ℤ a p e.row j *ℤ Y p e.row)) cost (ap₂ ◌*ℤ◌ coef (t.mult_taken w))
      ∙ within (pos unit *ℤ c p j) (a p e.row j *ℤ e.number) (a p e.row j *ℤ Y p e.row)
      ∙ ap neg_ℤ (times_change (a p e.row j) e.number (Y p e.row)))

  -- ---- one column alone, for all kinds but 7; one row alone, for all kinds but 1
  column_alone : eqb e.kind 7 ≡ false → (j : ℕ) → j < p.cols → (j ≡ e.column → ⊥) → moved_d s e j ≡ s.kept.D ‼ j
  unfolding touches
  column_alone h j l ne = d_still s e i j l (rw (h, ne_eqb j e.column ne) (or_none _ (and_none (eqb e.kind 2 || eqb e.kind 6))))

  pub terms_one : eqb e.kind 7 ≡ false → e.column < p.cols → sum p.cols (λ j. term_at q j (moved_d s e j) -ℤ term_at p j (s.kept.D ‼ j)) ≡ term_at q e.column (moved_d s e e.column) -ℤ term_at p e.column (s.kept.D ‼ e.column)
  terms_one h l =
      change_one p.cols (λ j. term_at p j (s.kept.D ‼ j)) (λ j. term_at q j (moved_d s e j)) e.column l
      (λ j k ne. rw (column_alone h j k ne, lower_still p e j ne, upper_still p e j ne, lower_mark_still p e j ne, upper_mark_still p e j ne))

  pub lacks_one : eqb e.kind 7 ≡ false → e.column < p.cols → sum p.cols (λ j. bit (lacks_at q j (moved_d s e j)) -ℤ bit (lacks_at p j (s.kept.D ‼ j))) ≡ bit (lacks_at q e.column (moved_d s e e.column)) -ℤ bit (lacks_at p e.column (s.kept.D ‼ e.column))
  lacks_one h l =
      change_one p.cols (λ j. bit (lacks_at p j (s.kept.D ‼ j))) (λ j. bit (lacks_at q j (moved_d s e j))) e.column l
      (λ j k ne. rw (column_alone h j k ne, lower_mark_still p e j ne, upper_mark_still p e j ne))

  row_alone : eqb e.kind 1 ≡ false → (k : ℕ) → k < p.rows → (k ≡ e.row → ⊥) → moved_r s e k ≡ s.kept.R ‼ k
  unfolding touches
  row_alone h k l ne = r_still s e i k l (rw (h, ne_eqb k e.row ne) (and_none (eqb e.kind 6)))

  pub broken_one : eqb e.kind 1 ≡ false → e.row < p.rows → sum p.rows (λ k. bit (broken_at q k (moved_r s e k)) -ℤ bit (broken_at p k (s.kept.R ‼ k))) ≡ bit (broken_at q e.row (moved_r s e e.row)) -ℤ bit (broken_at p e.row (s.kept.R ‼ e.row))
  unfolding edited
  broken_one h l =
      change_one p.rows (λ k. bit (broken_at p k (s.kept.R ‼ k))) (λ k. bit (broken_at q k (moved_r s e k))) e.row l
      (λ k r ne. rw (row_alone h k r ne, rhs_still p e k ne))
