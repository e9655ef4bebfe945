-- What an edit's kind doesn't use doesn't matter. Assumes nothing.
use mathlib.Core.Path.{◌≡◌, refl, sym, ap, ap₂, ◌∙◌}
use mathlib.Core.Logic.{◌⊎◌, inl, inr, ⊎_elim}
use mathlib.Core.List.{[], ◌∷◌}
use Prim.Native.Nat.{ℕ, zero, suc, ◌≤◌}
use native.Mathlib.Omega.{arith}
use lib.IntN.{ℤ, pos, ◌+ℤ◌, ◌-ℤ◌, ◌*ℤ◌, +ℤ_idr, +ℤ_invr}
use Rattle.doubles.specs.Limits.{unit}
use Rattle.doubles.proofs.Loops.{table_same}
use Rattle.sheet_rules.specs.Sum.{◌‼◌, bit}
use Rattle.sheet_rules.specs.Sheet.{Plan, Sheet, kept_of, sheet_of, a, c, rhs, x, Y, broken_at, outside_at, wrong_at, term_at, lacks_at, over_kept}
use Rattle.sheet_rules.specs.Edit.{put, edited, moved_r, moved_d, moved_c, moved_b, moved_broken, moved_outside, moved_wrong, moved_absent, moved, applied}
use Rattle.sheet_rules.specs.declared.Edit.{Edit}
use Rattle.sheet_rules.proofs.Ring.{ring}
use Rattle.sheet_rules.proofs.Sums.{sum_ext}
use Rattle.file_journal_rules.specs.Undo.{edit_of}
use Rattle.file_journal_rules.specs.Journal.{used, taken, tidy}

none : (r u v : ℤ) → u ≡ v → r +ℤ (u -ℤ v) ≡ r
none r u v e = ap (λ (w : ℤ). r +ℤ (w -ℤ v)) e ∙ ap (λ (w : ℤ). r +ℤ w) (+ℤ_invr v) ∙ +ℤ_idr r

-- (v - t) - (u - t)
without : (v u t : ℤ) → v -ℤ t -ℤ (u -ℤ t) ≡ v -ℤ u
without v u t = regroup ∙ ap (λ (w : ℤ). v -ℤ u +ℤ w) (+ℤ_invr t) ∙ +ℤ_idr (v -ℤ u)
  where
    regroup : v -ℤ t -ℤ (u -ℤ t) ≡ v -ℤ u +ℤ (t -ℤ t)
    regroup = simp ring

-- a column, or a row, whose numbers are the same in both plans
pub record InertColumn (p q : Plan) (j : ℕ) : Type 0 where
  pub a_same : (i : ℕ) → a q i j ≡ a p i j
  pub x_same : x q j ≡ x p j
  pub c_same : c q j ≡ c p j
  pub outside_same : bit (outside_at q j) ≡ bit (outside_at p j)

pub record InertRow (p q : Plan) (i : ℕ) : Type 0 where
  pub a_same : (j : ℕ) → a q i j ≡ a p i j
  pub y_same : Y q i ≡ Y p i
  pub rhs_same : rhs q i ≡ rhs p i
  pub wrong_same : bit (wrong_at q i) ≡ bit (wrong_at p i)

module _ (s : Sheet) (e f : Edit) (is : edited s.plan e ≡ edited s.plan f)
    (column : (e.column ≡ f.column) ⊎ (InertColumn s.plan (edited s.plan e) e.column × InertColumn s.plan (edited s.plan f) f.column))
    (row : (e.row ≡ f.row) ⊎ (InertRow s.plan (edited s.plan e) e.row × InertRow s.plan (edited s.plan f) f.row)) where
  abbrev p : Plan
  p = s.plan

  still_r : (g : Edit) → InertColumn p (edited p g) g.column → (i : ℕ) → moved_r s g i ≡ s.kept.R ‼ i
  unfolding moved_r
  still_r g h i = none (s.kept.R ‼ i) (a (edited p g) i g.column *ℤ x (edited p g) g.column) (a p i g.column *ℤ x p g.column) (ap₂ ◌*ℤ◌ (h.a_same i) h.x_same)

  same_r : (i : ℕ) → moved_r s e i ≡ moved_r s f i
  unfolding moved_r
  same_r i = ⊎_elim
      (λ h. ap₂ (λ (y : Plan) (j : ℕ). s.kept.R ‼ i +ℤ (a y i j *ℤ x y j -ℤ a p i j *ℤ x p j)) is h)
      (λ h. still_r e h.0 i ∙ sym (still_r f h.1 i)) column

  still_d : (g : Edit) → InertRow p (edited p g) g.row → (j : ℕ) → moved_d s g j ≡ s.kept.D ‼ j +ℤ (pos unit *ℤ c (edited p g) j -ℤ pos unit *ℤ c p j)
  unfolding moved_d
  still_d g h j =
      ap (λ (w : ℤ). s.kept.D ‼ j +ℤ (pos unit *ℤ c (edited p g) j -ℤ w -ℤ (pos unit *ℤ c p j -ℤ a p g.row j *ℤ Y p g.row))) (ap₂ ◌*ℤ◌ (h.a_same j) h.y_same)
      ∙ ap (λ (w : ℤ). s.kept.D ‼ j +ℤ w) (without (pos unit *ℤ c (edited p g) j) (pos unit *ℤ c p j) (a p g.row j *ℤ Y p g.row))

  same_d : (j : ℕ) → moved_d s e j ≡ moved_d s f j
  unfolding moved_d
  same_d j = ⊎_elim
      (λ h. ap₂ (λ (y : Plan) (i : ℕ). s.kept.D ‼ j +ℤ (pos unit *ℤ c y j -ℤ a y i j *ℤ Y y i -ℤ (pos unit *ℤ c p j -ℤ a p i j *ℤ Y p i))) is h)
      (λ h. still_d e h.0 j ∙ ap (λ (y : Plan). s.kept.D ‼ j +ℤ (pos unit *ℤ c y j -ℤ pos unit *ℤ c p j)) is ∙ sym (still_d f h.1 j)) row

  same_c : moved_c s e ≡ moved_c s f
  unfolding moved_c
  same_c = ⊎_elim
      (λ h. ap₂ (λ (y : Plan) (j : ℕ). s.kept.C ‼ 0 +ℤ (c y j *ℤ x y j -ℤ c p j *ℤ x p j)) is h)
      (λ h. none (s.kept.C ‼ 0) (c (edited p e) e.column *ℤ x (edited p e) e.column) (c p e.column *ℤ x p e.column) (ap₂ ◌*ℤ◌ h.0.c_same h.0.x_same) ∙ sym (none (s.kept.C ‼ 0) (c (edited p f) f.column *ℤ x (edited p f) f.column) (c p f.column *ℤ x p f.column) (ap₂ ◌*ℤ◌ h.1.c_same h.1.x_same))) column

  same_outside : moved_outside s e ≡ moved_outside s f
  unfolding moved_outside
  same_outside = ⊎_elim
      (λ h. ap₂ (λ (y : Plan) (j : ℕ). s.kept.counts ‼ 1 +ℤ (bit (outside_at y j) -ℤ bit (outside_at p j))) is h)
      (λ h. none (s.kept.counts ‼ 1) (bit (outside_at (edited p e) e.column)) (bit (outside_at p e.column)) h.0.outside_same ∙ sym (none (s.kept.counts ‼ 1) (bit (outside_at (edited p f) f.column)) (bit (outside_at p f.column)) h.1.outside_same)) column

  same_wrong : moved_wrong s e ≡ moved_wrong s f
  unfolding moved_wrong
  same_wrong = ⊎_elim
      (λ h. ap₂ (λ (y : Plan) (i : ℕ). s.kept.counts ‼ 2 +ℤ (bit (wrong_at y i) -ℤ bit (wrong_at p i))) is h)
      (λ h. none (s.kept.counts ‼ 2) (bit (wrong_at (edited p e) e.row)) (bit (wrong_at p e.row)) h.0.wrong_same ∙ sym (none (s.kept.counts ‼ 2) (bit (wrong_at (edited p f) f.row)) (bit (wrong_at p f.row)) h.1.wrong_same)) row

  same_rhs : s.kept.B ‼ 0 +ℤ (Y (edited p e) e.row *ℤ rhs (edited p e) e.row -ℤ Y p e.row *ℤ rhs p e.row) ≡ s.kept.B ‼ 0 +ℤ (Y (edited p f) f.row *ℤ rhs (edited p f) f.row -ℤ Y p f.row *ℤ rhs p f.row)
  same_rhs = ⊎_elim
      (λ h. ap₂ (λ (y : Plan) (i : ℕ). s.kept.B ‼ 0 +ℤ (Y y i *ℤ rhs y i -ℤ Y p i *ℤ rhs p i)) is h)
      (λ h. none (s.kept.B ‼ 0) (Y (edited p e) e.row *ℤ rhs (edited p e) e.row) (Y p e.row *ℤ rhs p e.row) (ap₂ ◌*ℤ◌ h.0.y_same h.0.rhs_same) ∙ sym (none (s.kept.B ‼ 0) (Y (edited p f) f.row *ℤ rhs (edited p f) f.row) (Y p f.row *ℤ rhs p f.row) (ap₂ ◌*ℤ◌ h.1.y_same h.1.rhs_same))) row

  same_b : moved_b s e ≡ moved_b s f
  unfolding moved_b
  same_b = ap₂ ◌+ℤ◌ same_rhs (sum_ext p.cols _ _ (λ j _. ap₂ (λ (y : Plan) (d : ℤ). term_at y j d -ℤ term_at p j (s.kept.D ‼ j)) is (same_d j)))

  same_broken : moved_broken s e ≡ moved_broken s f
  unfolding moved_broken
  same_broken = ap (λ (w : ℤ). s.kept.counts ‼ 0 +ℤ w) (sum_ext p.rows _ _ (λ i _. ap₂ (λ (y : Plan) (r : ℤ). bit (broken_at y i r) -ℤ bit (broken_at p i (s.kept.R ‼ i))) is (same_r i)))

  same_absent : moved_absent s e ≡ moved_absent s f
  unfolding moved_absent
  same_absent = ap (λ (w : ℤ). s.kept.counts ‼ 3 +ℤ w) (sum_ext p.cols _ _ (λ j _. ap₂ (λ (y : Plan) (d : ℤ). bit (lacks_at y j d) -ℤ bit (lacks_at p j (s.kept.D ‼ j))) is (same_d j)))

  pub same_applied : applied s e ≡ applied s f
  unfolding applied moved
  same_applied =
      λ t. sheet_of (is t)
      (over_kept (kept_of (table_same (moved_r s e) (moved_r s f) p.rows (λ i _. same_r i) t) (table_same (moved_d s e) (moved_d s f) p.cols (λ j _. same_d j) t) (same_c t ∷ []) (same_b t ∷ [])
      (same_broken t ∷ same_outside t ∷ same_wrong t ∷ same_absent t ∷ []))
      s.kept)

-- ---- an edit with what its kind doesn't use put to 0
module _ (s : Sheet) (i j : ℕ) (z : ℤ) where
  -- kinds that use no row, and those that use no column
  no_row : (k l m : ℕ) (y w : ℤ) → edited s.plan (edit_of k l j y) ≡ edited s.plan (edit_of k m j w) → InertRow s.plan (edited s.plan (edit_of k l j y)) l → InertRow s.plan (edited s.plan (edit_of k m j w)) m → applied s (edit_of k l j y) ≡ applied s (edit_of k m j w)
  no_row k l m y w e h g = same_applied s (edit_of k l j y) (edit_of k m j w) e (inl refl) (inr (h, g))

  no_column : (k l m : ℕ) → edited s.plan (edit_of k i l z) ≡ edited s.plan (edit_of k i m z) → InertColumn s.plan (edited s.plan (edit_of k i l z)) l → InertColumn s.plan (edited s.plan (edit_of k i m z)) m → applied s (edit_of k i l z) ≡ applied s (edit_of k i m z)
  no_column k l m e h g = same_applied s (edit_of k i l z) (edit_of k i m z) e (inr (h, g)) (inl refl)

  tidy_kind : (k : ℕ) → 1 ≤ k → k ≤ 9 → applied s (tidy (edit_of k i j z)) ≡ applied s (edit_of k i j z)
  unfolding edited put used taken
  tidy_kind zero h l = absurd (omega arith)
  tidy_kind (suc zero) h l = no_row 1 0 i z z refl (record { a_same = λ j. refl; y_same = refl; rhs_same = refl; wrong_same = refl }) (record { a_same = λ j. refl; y_same = refl; rhs_same = refl; wrong_same = refl })
  tidy_kind (suc (suc zero)) h l = no_row 2 0 i z z refl (record { a_same = λ j. refl; y_same = refl; rhs_same = refl; wrong_same = refl }) (record { a_same = λ j. refl; y_same = refl; rhs_same = refl; wrong_same = refl })
  tidy_kind (suc (suc (suc zero))) h l = no_row 3 0 i z z refl (record { a_same = λ j. refl; y_same = refl; rhs_same = refl; wrong_same = refl }) (record { a_same = λ j. refl; y_same = refl; rhs_same = refl; wrong_same = refl })
  tidy_kind (suc (suc (suc (suc zero)))) h l = no_row 4 0 i z z refl (record { a_same = λ j. refl; y_same = refl; rhs_same = refl; wrong_same = refl }) (record { a_same = λ j. refl; y_same = refl; rhs_same = refl; wrong_same = refl })
  tidy_kind (suc (suc (suc (suc (suc zero))))) h l = no_column 5 0 j refl (record { a_same = λ i. refl; x_same = refl; c_same = refl; outside_same = refl }) (record { a_same = λ i. refl; x_same = refl; c_same = refl; outside_same = refl })
  tidy_kind (suc (suc (suc (suc (suc (suc zero)))))) h l = refl
  tidy_kind (suc (suc (suc (suc (suc (suc (suc zero))))))) h l = no_column 7 0 j refl (record { a_same = λ i. refl; x_same = refl; c_same = refl; outside_same = refl }) (record { a_same = λ i. refl; x_same = refl; c_same = refl; outside_same = refl })
  tidy_kind (suc (suc (suc (suc (suc (suc (suc (suc zero)))))))) h l = no_row 8 0 i (pos 0) z refl (record { a_same = λ j. refl; y_same = refl; rhs_same = refl; wrong_same = refl }) (record { a_same = λ j. refl; y_same = refl; rhs_same = refl; wrong_same = refl })
  tidy_kind (suc (suc (suc (suc (suc (suc (suc (suc (suc zero))))))))) h l = no_row 9 0 i (pos 0) z refl (record { a_same = λ j. refl; y_same = refl; rhs_same = refl; wrong_same = refl }) (record { a_same = λ j. refl; y_same = refl; rhs_same = refl; wrong_same = refl })
  tidy_kind (suc (suc (suc (suc (suc (suc (suc (suc (suc (suc k)))))))))) h l = absurd (omega arith)

pub tidied : (s : Sheet) (e : Edit) → 1 ≤ e.kind → e.kind ≤ 9 → applied s (tidy e) ≡ applied s e
tidied s e h l = tidy_kind s e.row e.column e.number e.kind h l
