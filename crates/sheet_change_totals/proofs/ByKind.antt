-- C, B and the counts after an edit, kind by kind, as the code reckons them. Assumes nothing.
use mathlib.Core.Path.{◌≡◌, refl, sym, ap, ap₂, ◌∙◌}
use mathlib.Core.Bool.{Bool, true, false, not}
use mathlib.Core.List.{List}
use Prim.Native.Nat.{ℕ, ◌<◌}
use native.Mathlib.Nat.{lt_of_lt_of_le}
use lib.Dec.{eqb}
use lib.ListN.{get_or, length}
use lib.Seq.{get_or-set_same}
use borrow.Author.Tests.{eqb-true, lt-ltb}
use lib.IntN.{ℤ, pos, ◌+ℤ◌, ◌-ℤ◌, ◌*ℤ◌, +ℤ_invr, +ℤ_idr}
use Rattle.doubles.specs.Limits.{unit}
use Rattle.sheet_rules.specs.Sum.{◌‼◌, sum, bit}
use Rattle.sheet_rules.specs.Sheet.{Plan, Kept, Sheet, a, c, x, Y, rhs, op, lower, upper, lower_mark, upper_mark, holds, broken_at, outside_at, term_at, lacks_at}
use Rattle.sheet_rules.specs.Edit.{put, edited, moved_r, moved_d, moved_c, moved_b, moved_broken, moved_outside, moved_wrong, moved_absent}
use Rattle.sheet_rules.specs.Touches.{C, count, touches}
use Rattle.sheet_rules.specs.declared.Edit.{Edit}
use Rattle.sheet_rules.proofs.Sums.{sum_ext, change_none}
use Rattle.sheet_rules.proofs.Stays.{put_length}
use Rattle.sheet_rules.proofs.Touched.{r_still, d_still, cost_still, broken_still, outside_still, wrong_still, absent_still}
use Rattle.sheet_rules.proofs.Moves.{amount_r, cost_d, coef_r, coef_d, mult_d, terms_one, lacks_one, broken_one}
use Rattle.sheet_change_moves.specs.After.{Ready, totals_after, broken_change, terms_change, absent_change}
use Rattle.sheet_change_moves.specs.declared.Totals.{Totals}
use Rattle.sheet_change_totals.specs.declared.Column.{Column}
use Rattle.sheet_change_totals.specs.declared.Row.{Row}
use Rattle.sheet_change_totals.specs.Parts.{totals_of, column_of, row_of, pick, totals_now, column_at, row_at, column_part, row_part, moved_totals, column_after, row_after, column_totals, row_totals, risen, fallen, coef_totals, with_broken, with_terms}

-- a number that stays
stays : (w z : ℤ) → w ≡ z → z +ℤ pos 0 ≡ w
stays w z e = +ℤ_idr z ∙ sym e

steady : (b t z y : ℤ) → y ≡ z → b +ℤ (y -ℤ z) +ℤ t ≡ b +ℤ t
steady b t z y e = ap (λ (w : ℤ). b +ℤ (w -ℤ z) +ℤ t) e ∙ ap (λ (w : ℤ). b +ℤ w +ℤ t) (+ℤ_invr z) ∙ ap (λ (w : ℤ). w +ℤ t) (+ℤ_idr b)

-- the cell that an edit may write
put_at_holds : {A : Type 0} (b : Bool) (j : ℕ) (v d : A) (l : List A) → j < length l → pick b v (get_or l j d) ≡ get_or (put b j v l) j d
unfolding put
put_at_holds true j v d l h = sym (get_or-set_same l j v d h)
put_at_holds false j v d l h = refl

put_both : {A : Type 0} (b t : Bool) (j : ℕ) (v w d : A) (l : List A) → j < length l → pick b v (pick t w (get_or l j d)) ≡ get_or (put b j v (put t j w l)) j d
put_both b t j v w d l h = ap (pick b v) (put_at_holds t j w d l h) ∙ put_at_holds b j v d (put t j w l) (rw (put_length t j w l) h)

module _ (s : Sheet) (e : Edit) (g : Ready s e) where
  abbrev p : Plan
  p = s.plan

  abbrev q : Plan
  q = edited s.plan e

  abbrev k : Kept
  k = s.kept

  abbrev j : ℕ
  j = e.column

  abbrev i : ℕ
  i = e.row

  abbrev v : ℤ
  v = e.number

  -- as the code reads them
  abbrev pub totals : Totals
  totals = totals_now k.C k.B k.counts

  abbrev pub column : Column
  column = column_at p.cols j p.costs p.lowers p.uppers p.lower_marks p.upper_marks p.amounts k.D

  abbrev pub row : Row
  row = row_at p.rows i p.rhs p.ops k.R p.mults

  -- the edit's column and row in a plan
  abbrev column_in : Plan → ℤ → Column
  column_in t d = column_of (c t j) (lower t j) (upper t j) (lower_mark t j) (upper_mark t j) (x t j) d

  abbrev row_in : Plan → ℤ → Row
  row_in t r = row_of (rhs t i) (op t i) r (Y t i)

  column_there : j < p.cols → column ≡ column_in p (k.D ‼ j)
  unfolding column_at
  column_there l = rw (lt-ltb j p.cols l)

  row_there : i < p.rows → row ≡ row_in p (k.R ‼ i)
  unfolding row_at
  row_there l = rw (lt-ltb i p.rows l)

  -- ---- the columns' part of B and the counts, where one column or row alone moves
  one_absent : eqb e.kind 7 ≡ false → j < p.cols → k.counts ‼ 3 +ℤ (bit (lacks_at q j (moved_d s e j)) -ℤ bit (lacks_at p j (k.D ‼ j))) ≡ moved_absent s e
  unfolding moved_absent
  one_absent h l = ap (λ (z : ℤ). k.counts ‼ 3 +ℤ z) (sym (lacks_one s e g.sized g.index h l))

  one_broken : eqb e.kind 1 ≡ false → i < p.rows → k.counts ‼ 0 +ℤ (bit (broken_at q i (moved_r s e i)) -ℤ bit (broken_at p i (k.R ‼ i))) ≡ moved_broken s e
  unfolding moved_broken
  one_broken h l = ap (λ (z : ℤ). k.counts ‼ 0 +ℤ z) (sym (broken_one s e g.sized g.index h l))

  -- ---- kinds 1 to 4, 8 and 9
  module _ (n5 : eqb e.kind 5 ≡ false) (n6 : eqb e.kind 6 ≡ false) (n7 : eqb e.kind 7 ≡ false) where
    inside : j < p.cols
    inside = g.index.column_in_holds (rw (n5, n7))

    price_is : (b : Bool) → eqb e.kind 2 ≡ b → pick b (k.D ‼ j +ℤ pos unit *ℤ (v -ℤ c p j)) (k.D ‼ j) ≡ moved_d s e j
    unfolding touches
    price_is true w = sym (cost_d s e g.sized g.index (eqb-true _ _ w))
    price_is false w = sym (d_still s e g.index j inside (rw (w, n6, n7)))

    after_is : column_after e (column_in p (k.D ‼ j)) ≡ column_in q (moved_d s e j)
    unfolding column_after edited
    after_is =
        let l = inside in
        let z = g.sized in
        λ h. column_of (put_at_holds (eqb e.kind 2) j v (pos 0) p.costs (lt_of_lt_of_le l z.costs_fit) h) (put_both (eqb e.kind 8) (eqb e.kind 3) j (pos 0) v (pos 0) p.lowers (lt_of_lt_of_le l z.lowers_fit) h) (put_both (eqb e.kind 9) (eqb e.kind 4) j (pos 0) v (pos 0) p.uppers (lt_of_lt_of_le l z.uppers_fit) h) (put_both (eqb e.kind 8) (eqb e.kind 3) j 0 1 0 p.lower_marks (lt_of_lt_of_le l z.lower_marks_fit) h) (put_both (eqb e.kind 9) (eqb e.kind 4) j 0 1 0 p.upper_marks (lt_of_lt_of_le l z.upper_marks_fit) h) (put_at_holds (eqb e.kind 1) j v (pos 0) p.amounts (lt_of_lt_of_le l z.amounts_fit) h) (price_is (eqb e.kind 2) refl h)

    one_b : k.B ‼ 0 +ℤ (term_at q j (moved_d s e j) -ℤ term_at p j (k.D ‼ j)) ≡ moved_b s e
    unfolding moved_b edited put
    one_b =
        let same : Y q i *ℤ rhs q i ≡ Y p i *ℤ rhs p i = rw (n5, n7) in
        sym (steady (k.B ‼ 0) _ (Y p i *ℤ rhs p i) (Y q i *ℤ rhs q i) same ∙ ap (λ (z : ℤ). k.B ‼ 0 +ℤ z) (terms_one s e g.sized g.index n7 inside))

    -- all but the rows' count
    column_moves : column_totals e totals column ≡ totals_of (moved_c s e) (moved_b s e) (k.counts ‼ 0 +ℤ pos 0) (moved_outside s e) (moved_wrong s e) (moved_absent s e)
    unfolding moved_totals column_part totals_now moved_c moved_outside touches
    column_moves =
        ap (column_totals e totals) (column_there inside)
        ∙ ap (λ (z : Column). moved_totals totals (column_part (column_in p (k.D ‼ j))) (column_part z)) after_is
        ∙ (λ h. totals_of (moved_c s e) (one_b h) (k.counts ‼ 0 +ℤ pos 0) (moved_outside s e) (stays (moved_wrong s e) (k.counts ‼ 2) (wrong_still s e g.index n7) h) (one_absent n7 inside h))

    pub column_law : eqb e.kind 1 ≡ false → column_totals e totals column ≡ totals_after s e
    unfolding totals_after touches
    column_law n1 = column_moves ∙ (λ h. totals_of (moved_c s e) (moved_b s e) (stays (moved_broken s e) (k.counts ‼ 0) (broken_still s e g.index (rw (n1, n5, n6))) h) (moved_outside s e) (moved_wrong s e) (moved_absent s e))

  pub amount_law : e.kind ≡ 1 → with_broken (column_totals e totals column) (broken_change p.rows p.cols j (v -ℤ column.amount) p.coefs p.rhs p.ops k.R) ≡ totals_after s e
  unfolding totals_after moved_broken edited put
  amount_law w =
      let l : j < p.cols = g.index.column_in_holds (rw w) in
      let rhs : (r : ℕ) → rhs p r ≡ rhs q r = λ r. rw w in
      let rows : broken_change p.rows p.cols j (v -ℤ column.amount) p.coefs p.rhs p.ops k.R ≡ sum p.rows (λ r. bit (broken_at q r (moved_r s e r)) -ℤ bit (broken_at p r (k.R ‼ r))) =
      ap (λ (y : Column). broken_change p.rows p.cols j (v -ℤ y.amount) p.coefs p.rhs p.ops k.R) (column_there l)
      ∙ sum_ext p.rows _ _ (λ r m. ap₂ (λ (y b : ℤ). bit (not (holds (op p r) y b)) -ℤ bit (broken_at p r (k.R ‼ r))) (sym (amount_r s e g.sized g.index w r)) (rhs r)) in
      (λ h. with_broken (column_moves (rw w) (rw w) (rw w) h) (rows h)) ∙ (λ h. totals_of (moved_c s e) (moved_b s e) (+ℤ_idr (k.counts ‼ 0) h +ℤ sum p.rows (λ r. bit (broken_at q r (moved_r s e r)) -ℤ bit (broken_at p r (k.R ‼ r)))) (moved_outside s e) (moved_wrong s e) (moved_absent s e))

  -- ---- kinds 5 and 7: all but the columns' part of B and the last count
  module _ (n1 : eqb e.kind 1 ≡ false) (n6 : eqb e.kind 6 ≡ false) (l : i < p.rows) (same_c : touches s e (C 0) ≡ false) (same_outside : touches s e (count 1) ≡ false) where
    row_is : row_after e (row_in p (k.R ‼ i)) ≡ row_in q (moved_r s e i)
    unfolding row_after edited touches
    row_is = λ h. row_of (put_at_holds (eqb e.kind 5) i v (pos 0) p.rhs (lt_of_lt_of_le l g.sized.rhs_fit) h) (op p i) (sym (r_still s e g.index i l (rw (n1, n6))) h) (put_at_holds (eqb e.kind 7) i v (pos 0) p.mults (lt_of_lt_of_le l g.sized.mults_fit) h)

    row_moves : row_totals e totals row ≡ totals_of (moved_c s e) (k.B ‼ 0 +ℤ (Y q i *ℤ rhs q i -ℤ Y p i *ℤ rhs p i)) (moved_broken s e) (moved_outside s e) (moved_wrong s e) (k.counts ‼ 3 +ℤ pos 0)
    unfolding moved_totals row_part totals_now moved_wrong
    row_moves =
        ap (row_totals e totals) (row_there l)
        ∙ ap (λ (z : Row). moved_totals totals (row_part (row_in p (k.R ‼ i))) (row_part z)) row_is
        ∙ (λ h. totals_of (stays (moved_c s e) (k.C ‼ 0) (cost_still s e g.index same_c) h) (k.B ‼ 0 +ℤ (Y q i *ℤ rhs q i -ℤ Y p i *ℤ rhs p i)) (one_broken n1 l h) (stays (moved_outside s e) (k.counts ‼ 1) (outside_still s e g.index same_outside) h) (moved_wrong s e) (k.counts ‼ 3 +ℤ pos 0))

  pub right_law : e.kind ≡ 5 → row_totals e totals row ≡ totals_after s e
  unfolding totals_after touches moved_b edited put
  right_law w =
      let none : sum p.cols (λ y. term_at q y (moved_d s e y) -ℤ term_at p y (k.D ‼ y)) ≡ pos 0 = change_none p.cols (λ y. term_at p y (k.D ‼ y)) (λ y. term_at q y (moved_d s e y)) (λ y h. ap (term_at q y) (d_still s e g.index y h (rw w)) ∙ rw w) in
      let sides = k.B ‼ 0 +ℤ (Y q i *ℤ rhs q i -ℤ Y p i *ℤ rhs p i) in
      let floor : sides ≡ moved_b s e = sym (ap (λ (z : ℤ). sides +ℤ z) none ∙ +ℤ_idr sides) in
      row_moves (rw w) (rw w) (g.index.row_within (rw w)) (rw w) (rw w) ∙ (λ h. totals_of (moved_c s e) (floor h) (moved_broken s e) (moved_outside s e) (moved_wrong s e) (stays (moved_absent s e) (k.counts ‼ 3) (absent_still s e g.index (rw w)) h))

  pub mult_law : e.kind ≡ 7 → with_terms (row_totals e totals row) (terms_change p.cols i (v -ℤ row.mult) p.coefs p.lowers p.uppers p.lower_marks p.upper_marks k.D) (absent_change p.cols i (v -ℤ row.mult) p.coefs p.lower_marks p.upper_marks k.D) ≡ totals_after s e
  unfolding totals_after touches moved_b moved_absent edited put
  mult_law w =
      let l : i < p.rows = g.index.row_within (rw w) in
      let same : (y : ℕ) (d : ℤ) → term_at p y d ≡ term_at q y d = λ y d. rw w in
      let like : (y : ℕ) (d : ℤ) → bit (lacks_at p y d) ≡ bit (lacks_at q y d) = λ y d. rw w in
      let terms : terms_change p.cols i (v -ℤ row.mult) p.coefs p.lowers p.uppers p.lower_marks p.upper_marks k.D ≡ sum p.cols (λ y. term_at q y (moved_d s e y) -ℤ term_at p y (k.D ‼ y)) =
      ap (λ (y : Row). terms_change p.cols i (v -ℤ y.mult) p.coefs p.lowers p.uppers p.lower_marks p.upper_marks k.D) (row_there l)
      ∙ sum_ext p.cols _ _ (λ y m. ap (λ (z : ℤ). z -ℤ term_at p y (k.D ‼ y)) (ap (term_at p y) (sym (mult_d s e g.sized g.index w y)) ∙ same y (moved_d s e y))) in
      let lack : absent_change p.cols i (v -ℤ row.mult) p.coefs p.lower_marks p.upper_marks k.D ≡ sum p.cols (λ y. bit (lacks_at q y (moved_d s e y)) -ℤ bit (lacks_at p y (k.D ‼ y))) =
      ap (λ (y : Row). absent_change p.cols i (v -ℤ y.mult) p.coefs p.lower_marks p.upper_marks k.D) (row_there l)
      ∙ sum_ext p.cols _ _ (λ y m. ap (λ (z : ℤ). z -ℤ bit (lacks_at p y (k.D ‼ y))) (ap (λ (z : ℤ). bit (lacks_at p y z)) (sym (mult_d s e g.sized g.index w y)) ∙ like y (moved_d s e y))) in
      (λ h. with_terms (row_moves (rw w) (rw w) l (rw w) (rw w) h) (terms h) (lack h)) ∙ (λ h. totals_of (moved_c s e) (moved_b s e) (moved_broken s e) (moved_outside s e) (moved_wrong s e) (+ℤ_idr (k.counts ‼ 3) h +ℤ sum p.cols (λ y. bit (lacks_at q y (moved_d s e y)) -ℤ bit (lacks_at p y (k.D ‼ y)))))

  -- ---- kind 6
  pub coef_law : e.kind ≡ 6 → coef_totals totals column row (v -ℤ a p i j) ≡ totals_after s e
  unfolding totals_after moved_totals row_part column_part totals_now moved_b moved_c moved_outside moved_wrong edited put
  coef_law w =
      let l : j < p.cols = g.index.column_in_holds (rw w) in
      let m : i < p.rows = g.index.row_within (rw w) in
      let z = v -ℤ a p i j in
      let rise : risen (row_in p (k.R ‼ i)) (z *ℤ x p j) ≡ row_in q (moved_r s e i) = (λ h. row_in p (sym (coef_r s e g.sized g.index w) h)) ∙ rw w in
      let fall : fallen (column_in p (k.D ‼ j)) (z *ℤ Y p i) ≡ column_in q (moved_d s e j) = (λ h. column_in p (sym (coef_d s e g.sized g.index w) h)) ∙ rw w in
      ap₂ (λ (y : Column) (t : Row). coef_totals totals y t z) (column_there l) (row_there m)
      ∙ ap₂ (λ (t : Row) (y : Column). moved_totals (moved_totals totals (row_part (row_in p (k.R ‼ i))) (row_part t)) (column_part (column_in p (k.D ‼ j))) (column_part y)) rise fall
      ∙ (λ h. totals_of (+ℤ_idr (k.C ‼ 0) h +ℤ (c q j *ℤ x q j -ℤ c p j *ℤ x p j)) (k.B ‼ 0 +ℤ (Y q i *ℤ rhs q i -ℤ Y p i *ℤ rhs p i) +ℤ sym (terms_one s e g.sized g.index (rw w) l) h) ((+ℤ_idr _ ∙ one_broken (rw w) m) h) (+ℤ_idr (k.counts ‼ 1) h +ℤ (bit (outside_at q j) -ℤ bit (outside_at p j))) (+ℤ_idr (moved_wrong s e) h) ((ap (λ (t : ℤ). t +ℤ (bit (lacks_at q j (moved_d s e j)) -ℤ bit (lacks_at p j (k.D ‼ j)))) (+ℤ_idr (k.counts ‼ 3)) ∙ one_absent (rw w) l) h))
