-- The kept numbers after an edit and its edit back are those before, whatever they are. Assumes nothing.
use mathlib.Core.Path.{◌≡◌, refl, sym, ap, ap₂, ◌∙◌}
use mathlib.Core.List.{List, [], ◌∷◌, ◌++◌}
use Prim.Native.Nat.{ℕ, suc, ◌≤◌, ◌<◌}
use native.Mathlib.Omega.{arith}
use lib.ListN.{length, drop}
use lib.Seq.{drop_at}
use lib.IntN.{ℤ, pos, neg_ℤ, ◌+ℤ◌, ◌-ℤ◌, ◌*ℤ◌, +ℤ_assoc, +ℤ_comm, +ℤ_idr, +ℤ_invr, neg_ℤ-+ℤ, neg_ℤ-neg_ℤ}
use Rattle.doubles.specs.Limits.{unit}
use Rattle.doubles.specs.Loop.{table}
use Rattle.doubles.specs.Lists.{over}
use Rattle.doubles.proofs.Loops.{length_tab, get_d_table}
use Rattle.sheet_rules.specs.Sum.{◌‼◌, sum, bit}
use Rattle.sheet_rules.specs.Sheet.{Plan, Sheet, kept_of, sheet_of, a, c, rhs, x, Y, broken_at, outside_at, wrong_at, term_at, lacks_at, over_kept}
use Rattle.sheet_rules.specs.Edit.{edited, moved_r, moved_d, moved_c, moved_b, moved_broken, moved_outside, moved_wrong, moved_absent, moved, applied}
use Rattle.sheet_rules.specs.Words.{Sized}
use Rattle.sheet_rules.specs.declared.Edit.{Edit}
use Rattle.sheet_rules.proofs.Sums.{sum_ext, sum_add, sum_none}
use Rattle.sheet_rules.proofs.Fronts.{front}
use Rattle.file_journal_rules.specs.Undo.{edit_of}

-- ---- there and back
back_change : (u v : ℤ) → v -ℤ u +ℤ (u -ℤ v) ≡ pos 0
back_change u v =
    let e : u -ℤ v ≡ neg_ℤ (v -ℤ u) = sym (neg_ℤ-+ℤ v (neg_ℤ u) ∙ ap (λ (w : ℤ). neg_ℤ v +ℤ w) (neg_ℤ-neg_ℤ u) ∙ +ℤ_comm (neg_ℤ v) u) in
    ap (λ (w : ℤ). v -ℤ u +ℤ w) e ∙ +ℤ_invr (v -ℤ u)

there_and_back : (r u v : ℤ) → r +ℤ (v -ℤ u) +ℤ (u -ℤ v) ≡ r
there_and_back r u v = +ℤ_assoc r (v -ℤ u) (u -ℤ v) ∙ ap (λ (w : ℤ). r +ℤ w) (back_change u v) ∙ +ℤ_idr r

sums_back : (n : ℕ) (f g : ℕ → ℤ) → sum n (λ j. g j -ℤ f j) +ℤ sum n (λ j. f j -ℤ g j) ≡ pos 0
sums_back n f g = sym (sum_add n (λ j. g j -ℤ f j) (λ j. f j -ℤ g j)) ∙ sum_ext n (λ j. g j -ℤ f j +ℤ (f j -ℤ g j)) (λ _. pos 0) (λ j _. back_change (f j) (g j)) ∙ sum_none n

sum_there_and_back : (n : ℕ) (r : ℤ) (f g f' g' : ℕ → ℤ) → ((j : ℕ) → j < n → f' j ≡ f j) → ((j : ℕ) → j < n → g' j ≡ g j) → r +ℤ sum n (λ j. g j -ℤ f j) +ℤ sum n (λ j. f' j -ℤ g' j) ≡ r
sum_there_and_back n r f g f' g' p q =
    ap (λ (w : ℤ). r +ℤ sum n (λ j. g j -ℤ f j) +ℤ w) (sum_ext n (λ j. f' j -ℤ g' j) (λ j. f j -ℤ g j) (λ j l. ap₂ ◌-ℤ◌ (p j l) (q j l)))
    ∙ +ℤ_assoc r _ _ ∙ ap (λ (w : ℤ). r +ℤ w) (sums_back n f g) ∙ +ℤ_idr r

-- (r + d + t) + e + w, where d and e, and t and w, are opposite
both_back : (r d t e w : ℤ) → d +ℤ e ≡ pos 0 → t +ℤ w ≡ pos 0 → r +ℤ d +ℤ t +ℤ e +ℤ w ≡ r
both_back r d t e w p q =
    ap (λ (y : ℤ). y +ℤ w) (+ℤ_assoc (r +ℤ d) t e ∙ ap (λ (y : ℤ). r +ℤ d +ℤ y) (+ℤ_comm t e) ∙ sym (+ℤ_assoc (r +ℤ d) e t))
    ∙ +ℤ_assoc (r +ℤ d +ℤ e) t w ∙ ap (λ (y : ℤ). r +ℤ d +ℤ e +ℤ y) q ∙ +ℤ_idr (r +ℤ d +ℤ e)
    ∙ +ℤ_assoc r d e ∙ ap (λ (y : ℤ). r +ℤ y) p ∙ +ℤ_idr r

-- ---- written over twice: the second time what stood there
over_same : (f l : List ℤ) → length f ≤ length l → ((i : ℕ) → i < length f → l ‼ i ≡ f ‼ i) → over f l ≡ l
over_same [] l h e = refl
over_same (y ∷ f) [] h e = absurd (omega arith)
over_same (y ∷ f) (z ∷ l) h e = ap₂ ◌∷◌ (sym (e 0 (omega arith))) (over_same f l (omega arith) (λ i k. e (suc i) (omega arith)))

over_twice : (n : ℕ) (f g : ℕ → ℤ) (l : List ℤ) → n ≤ length l → ((i : ℕ) → i < n → f i ≡ l ‼ i) → over (table n f) (over (table n g) l) ≡ l
over_twice n f g l h e =
    let d : drop (length (table n f)) (over (table n g) l) ≡ drop (length (table n f)) l = rw (length_tab n 0 f) (drop_at (table n g) (drop (length (table n g)) l) n (length_tab n 0 g) ∙ ap (λ (k : ℕ). drop k l) (length_tab n 0 g)) in
    ap (λ (r : List ℤ). table n f ++ r) d
    ∙ over_same (table n f) l (rw (length_tab n 0 f) h) (λ i k. let j : i < n = rw (length_tab n 0 f) at k in sym (e i j) ∙ sym (get_d_table n f (pos 0) i j))

one_twice : (u v : ℤ) (l : List ℤ) → 1 ≤ length l → u ≡ l ‼ 0 → over (u ∷ []) (over (v ∷ []) l) ≡ l
one_twice u v [] h e = absurd (omega arith)
one_twice u v (y ∷ l) h e = ap (λ (z : ℤ). z ∷ l) e

four_twice : (u₀ u₁ u₂ u₃ v₀ v₁ v₂ v₃ : ℤ) (l : List ℤ) → 4 ≤ length l → u₀ ≡ l ‼ 0 → u₁ ≡ l ‼ 1 → u₂ ≡ l ‼ 2 → u₃ ≡ l ‼ 3 → over (u₀ ∷ u₁ ∷ u₂ ∷ u₃ ∷ []) (over (v₀ ∷ v₁ ∷ v₂ ∷ v₃ ∷ []) l) ≡ l
four_twice u₀ u₁ u₂ u₃ v₀ v₁ v₂ v₃ [] h e f g k = absurd (omega arith)
four_twice u₀ u₁ u₂ u₃ v₀ v₁ v₂ v₃ (a ∷ []) h e f g k = absurd (omega arith)
four_twice u₀ u₁ u₂ u₃ v₀ v₁ v₂ v₃ (a ∷ b ∷ []) h e f g k = absurd (omega arith)
four_twice u₀ u₁ u₂ u₃ v₀ v₁ v₂ v₃ (a ∷ b ∷ d ∷ []) h e f g k = absurd (omega arith)
four_twice u₀ u₁ u₂ u₃ v₀ v₁ v₂ v₃ (a ∷ b ∷ d ∷ z ∷ l) h e f g k = λ t. e t ∷ f t ∷ g t ∷ k t ∷ l

-- ---- the moved numbers, there and back
module _ (s : Sheet) (e : Edit) (kb : ℕ) (zb : ℤ) (is : edited (edited s.plan e) (edit_of kb e.row e.column zb) ≡ s.plan) where
  abbrev p : Plan
  p = s.plan

  abbrev q : Plan
  q = edited s.plan e

  abbrev t : Sheet
  t = applied s e

  abbrev b : Edit
  b = edit_of kb e.row e.column zb

  r_back : (i : ℕ) → i < p.rows → moved_r t b i ≡ s.kept.R ‼ i
  unfolding applied moved over_kept moved_r
  r_back i l =
      ap₂ (λ (r : ℤ) (y : Plan). r +ℤ (a y i e.column *ℤ x y e.column -ℤ a q i e.column *ℤ x q e.column)) (front p.rows (moved_r s e) s.kept.R i l) is
      ∙ there_and_back (s.kept.R ‼ i) (a p i e.column *ℤ x p e.column) (a q i e.column *ℤ x q e.column)

  d_moved : (j : ℕ) → j < p.cols → t.kept.D ‼ j ≡ moved_d s e j
  unfolding applied moved over_kept
  d_moved j l = front p.cols (moved_d s e) s.kept.D j l

  r_moved : (i : ℕ) → i < p.rows → t.kept.R ‼ i ≡ moved_r s e i
  unfolding applied moved over_kept
  r_moved i l = front p.rows (moved_r s e) s.kept.R i l

  d_back : (j : ℕ) → j < p.cols → moved_d t b j ≡ s.kept.D ‼ j
  unfolding applied moved over_kept moved_d
  d_back j l =
      ap₂ (λ (r : ℤ) (y : Plan). r +ℤ (pos unit *ℤ c y j -ℤ a y e.row j *ℤ Y y e.row -ℤ (pos unit *ℤ c q j -ℤ a q e.row j *ℤ Y q e.row))) (front p.cols (moved_d s e) s.kept.D j l) is
      ∙ there_and_back (s.kept.D ‼ j) (pos unit *ℤ c p j -ℤ a p e.row j *ℤ Y p e.row) (pos unit *ℤ c q j -ℤ a q e.row j *ℤ Y q e.row)

  c_back : moved_c t b ≡ s.kept.C ‼ 0
  unfolding applied moved over_kept moved_c
  c_back =
      ap (λ (y : Plan). moved_c s e +ℤ (c y e.column *ℤ x y e.column -ℤ c q e.column *ℤ x q e.column)) is
      ∙ there_and_back (s.kept.C ‼ 0) (c p e.column *ℤ x p e.column) (c q e.column *ℤ x q e.column)

  outside_back : moved_outside t b ≡ s.kept.counts ‼ 1
  unfolding applied moved over_kept moved_outside
  outside_back =
      ap (λ (y : Plan). moved_outside s e +ℤ (bit (outside_at y e.column) -ℤ bit (outside_at q e.column))) is
      ∙ there_and_back (s.kept.counts ‼ 1) (bit (outside_at p e.column)) (bit (outside_at q e.column))

  wrong_back : moved_wrong t b ≡ s.kept.counts ‼ 2
  unfolding applied moved over_kept moved_wrong
  wrong_back =
      ap (λ (y : Plan). moved_wrong s e +ℤ (bit (wrong_at y e.row) -ℤ bit (wrong_at q e.row))) is
      ∙ there_and_back (s.kept.counts ‼ 2) (bit (wrong_at p e.row)) (bit (wrong_at q e.row))

  broken_back : moved_broken t b ≡ s.kept.counts ‼ 0
  unfolding applied moved over_kept moved_broken edited
  broken_back =
      sum_there_and_back p.rows (s.kept.counts ‼ 0) (λ i. bit (broken_at p i (s.kept.R ‼ i))) (λ i. bit (broken_at q i (moved_r s e i))) (λ i. bit (broken_at (edited q b) i (moved_r t b i))) (λ i. bit (broken_at q i (t.kept.R ‼ i)))
      (λ i l. ap₂ (λ (y : Plan) (r : ℤ). bit (broken_at y i r)) is (r_back i l))
      (λ i l. ap (λ (r : ℤ). bit (broken_at q i r)) (r_moved i l))

  absent_back : moved_absent t b ≡ s.kept.counts ‼ 3
  unfolding applied moved over_kept moved_absent edited
  absent_back =
      sum_there_and_back p.cols (s.kept.counts ‼ 3) (λ j. bit (lacks_at p j (s.kept.D ‼ j))) (λ j. bit (lacks_at q j (moved_d s e j))) (λ j. bit (lacks_at (edited q b) j (moved_d t b j))) (λ j. bit (lacks_at q j (t.kept.D ‼ j)))
      (λ j l. ap₂ (λ (y : Plan) (d : ℤ). bit (lacks_at y j d)) is (d_back j l))
      (λ j l. ap (λ (d : ℤ). bit (lacks_at q j d)) (d_moved j l))

  b_back : moved_b t b ≡ s.kept.B ‼ 0
  unfolding applied moved over_kept moved_b edited
  b_back =
      ap₂ (λ (y : Plan) (w : ℤ). moved_b s e +ℤ (Y y e.row *ℤ rhs y e.row -ℤ Y q e.row *ℤ rhs q e.row) +ℤ w) is
      (sum_ext p.cols (λ j. term_at (edited q b) j (moved_d t b j) -ℤ term_at q j (t.kept.D ‼ j)) (λ j. term_at p j (s.kept.D ‼ j) -ℤ term_at q j (moved_d s e j))
      (λ j l. ap₂ ◌-ℤ◌ (ap₂ (λ (y : Plan) (d : ℤ). term_at y j d) is (d_back j l)) (ap (term_at q j) (d_moved j l))))
      ∙ both_back (s.kept.B ‼ 0) (Y q e.row *ℤ rhs q e.row -ℤ Y p e.row *ℤ rhs p e.row) (sum p.cols (λ j. term_at q j (moved_d s e j) -ℤ term_at p j (s.kept.D ‼ j)))
      (Y p e.row *ℤ rhs p e.row -ℤ Y q e.row *ℤ rhs q e.row) (sum p.cols (λ j. term_at p j (s.kept.D ‼ j) -ℤ term_at q j (moved_d s e j)))
      (back_change (Y p e.row *ℤ rhs p e.row) (Y q e.row *ℤ rhs q e.row))
      (sums_back p.cols (λ j. term_at p j (s.kept.D ‼ j)) (λ j. term_at q j (moved_d s e j)))

  kept_back : Sized s → over_kept (moved t b) t.kept ≡ s.kept
  unfolding applied moved over_kept edited
  kept_back z = λ i. kept_of
      (over_twice p.rows (moved_r t b) (moved_r s e) s.kept.R z.r_fits r_back i)
      (over_twice p.cols (moved_d t b) (moved_d s e) s.kept.D z.d_fits d_back i)
      (one_twice (moved_c t b) (moved_c s e) s.kept.C z.c_fits c_back i)
      (one_twice (moved_b t b) (moved_b s e) s.kept.B z.b_fits b_back i)
      (four_twice (moved_broken t b) (moved_outside t b) (moved_wrong t b) (moved_absent t b) (moved_broken s e) (moved_outside s e) (moved_wrong s e) (moved_absent s e) s.kept.counts z.counts_fit broken_back outside_back wrong_back absent_back i)

  -- every cell, kept ones too, and those past what is written
  pub sheet_back : Sized s → applied t b ≡ s
  unfolding applied
  sheet_back z = λ i. sheet_of (is i) (kept_back z i)
