-- A true sheet stays true. Assumes nothing.
use mathlib.Core.Path.{◌≡◌, ap, ap₂, ◌∙◌}
use mathlib.Core.Logic.{inl, inr, ⊎_elim}
use Prim.Native.Nat.{ℕ, ◌<◌}
use lib.IntN.{ℤ, pos, ◌+ℤ◌, ◌-ℤ◌, ◌*ℤ◌, +ℤ_assoc}
use Rattle.doubles.specs.Limits.{unit}
use Rattle.sheet_rules.specs.Sum.{◌‼◌, sum, dot, bit}
use Rattle.sheet_rules.specs.Sheet.{Plan, Sheet, True, a, c, rhs, x, Y, broken_at, outside_at, wrong_at, term_at, lacks_at, activity, price, cost, floor, broken_rows, outside_amounts, wrong_signs, absent_needed, over_kept}
use Rattle.sheet_rules.specs.Edit.{put, edited, moved_r, moved_d, moved_c, moved_b, moved_broken, moved_outside, moved_wrong, moved_absent, moved, applied}
use Rattle.sheet_rules.specs.Words.{Index}
use Rattle.sheet_rules.specs.declared.Edit.{Edit}
use Rattle.sheet_rules.proofs.Ring.{ring, add_left_comm}
use Rattle.sheet_rules.proofs.Sums.{moved_to, sum_moves_by, sum_local}
use Rattle.sheet_rules.proofs.Fronts.{front}
use Rattle.sheet_rules.proofs.Local.{column_used, row_used, a_column, a_row, c_still, x_still, lower_still, upper_still, lower_mark_still, upper_mark_still, rhs_still, y_still}

-- (p - u) + ((q - w) - (p - v)) = q - (u + (w - v))
price_moves : (p q u v w : ℤ) → p -ℤ u +ℤ (q -ℤ w -ℤ (p -ℤ v)) ≡ q -ℤ (u +ℤ (w -ℤ v))
price_moves p q u v w = regroup ∙ ap (λ (z : ℤ). z -ℤ (u +ℤ (w -ℤ v))) (moved_to p q)
  where
    regroup : p -ℤ u +ℤ (q -ℤ w -ℤ (p -ℤ v)) ≡ p +ℤ (q -ℤ p) -ℤ (u +ℤ (w -ℤ v))
    regroup = simp ring

parts : (a b d f : ℤ) → a +ℤ b +ℤ d +ℤ f ≡ a +ℤ d +ℤ (b +ℤ f)
parts a b d f = simp (+ℤ_assoc, add_left_comm)

module _ (s : Sheet) (e : Edit) (ok : Index s.plan e) (t : True s) where
  abbrev p : Plan
  p = s.plan

  abbrev q : Plan
  q = edited s.plan e

  r_moved : (i : ℕ) → i < p.rows → moved_r s e i ≡ activity q (x q) i
  unfolding moved_r activity edited put
  r_moved i l =
      ap (λ (z : ℤ). z +ℤ (a q i e.column *ℤ x q e.column -ℤ a p i e.column *ℤ x p e.column)) (t.r_true i l)
      ∙ sum_local p.cols e.column (λ j. a p i j *ℤ x p j) (λ j. a q i j *ℤ x q j)
      (λ j h ne. ap₂ ◌*ℤ◌ (a_column p e ok i j h ne) (x_still p e j ne))
      (⊎_elim (λ h. inl h) (λ h. inr (⊎_elim (λ (w : e.kind ≡ 5). rw w) (λ (w : e.kind ≡ 7). rw w) h)) (column_used p e ok))

  d_moved : (j : ℕ) → j < p.cols → moved_d s e j ≡ price q j
  unfolding moved_d price edited put
  d_moved j l =
      ap (λ (z : ℤ). z +ℤ (pos unit *ℤ c q j -ℤ a q e.row j *ℤ Y q e.row -ℤ (pos unit *ℤ c p j -ℤ a p e.row j *ℤ Y p e.row))) (t.d_true j l)
      ∙ price_moves (pos unit *ℤ c p j) (pos unit *ℤ c q j) (sum p.rows (λ i. a p i j *ℤ Y p i)) (a p e.row j *ℤ Y p e.row) (a q e.row j *ℤ Y q e.row)
      ∙ ap (λ (z : ℤ). pos unit *ℤ c q j -ℤ z)
      (sum_local p.rows e.row (λ i. a p i j *ℤ Y p i) (λ i. a q i j *ℤ Y q i)
      (λ i h ne. ap₂ ◌*ℤ◌ (a_row p e ok i j l ne) (y_still p e i ne))
      (⊎_elim (λ h. inl h) (λ h. inr (rw (h.1, h.2))) (row_used p e ok)))

  c_moved : moved_c s e ≡ cost q (x q)
  unfolding moved_c cost edited put
  c_moved =
      ap (λ (z : ℤ). z +ℤ (c q e.column *ℤ x q e.column -ℤ c p e.column *ℤ x p e.column)) t.c_true
      ∙ sum_local p.cols e.column (λ j. c p j *ℤ x p j) (λ j. c q j *ℤ x q j)
      (λ j h ne. ap₂ ◌*ℤ◌ (c_still p e j ne) (x_still p e j ne))
      (⊎_elim (λ h. inl h) (λ h. inr (⊎_elim (λ (w : e.kind ≡ 5). rw w) (λ (w : e.kind ≡ 7). rw w) h)) (column_used p e ok))

  b_moved : moved_b s e ≡ floor q
  unfolding moved_b floor edited put
  b_moved =
      ap (λ (z : ℤ). z +ℤ (Y q e.row *ℤ rhs q e.row -ℤ Y p e.row *ℤ rhs p e.row) +ℤ sum p.cols (λ j. term_at q j (moved_d s e j) -ℤ term_at p j (s.kept.D ‼ j))) t.b_true
      ∙ parts (dot p.rows (Y p) (rhs p)) _ _ _
      ∙ ap₂ ◌+ℤ◌
      (sum_local p.rows e.row (λ i. Y p i *ℤ rhs p i) (λ i. Y q i *ℤ rhs q i)
      (λ i h ne. ap₂ ◌*ℤ◌ (y_still p e i ne) (rhs_still p e i ne))
      (⊎_elim (λ h. inl h) (λ h. inr (rw (h.0, h.2))) (row_used p e ok)))
      (sum_moves_by p.cols (λ j. term_at p j (s.kept.D ‼ j)) (λ j. term_at q j (moved_d s e j)) (λ j. term_at p j (price p j)) (λ j. term_at q j (price q j))
      (λ j l. ap (term_at p j) (t.d_true j l)) (λ j l. ap (term_at q j) (d_moved j l)))

  broken_moved : moved_broken s e ≡ broken_rows q
  unfolding moved_broken broken_rows edited
  broken_moved =
      ap (λ (z : ℤ). z +ℤ sum p.rows (λ i. bit (broken_at q i (moved_r s e i)) -ℤ bit (broken_at p i (s.kept.R ‼ i)))) t.broken_true
      ∙ sum_moves_by p.rows (λ i. bit (broken_at p i (s.kept.R ‼ i))) (λ i. bit (broken_at q i (moved_r s e i))) (λ i. bit (broken_at p i (activity p (x p) i))) (λ i. bit (broken_at q i (activity q (x q) i)))
      (λ i l. ap (λ (r : ℤ). bit (broken_at p i r)) (t.r_true i l)) (λ i l. ap (λ (r : ℤ). bit (broken_at q i r)) (r_moved i l))

  absent_moved : moved_absent s e ≡ absent_needed q
  unfolding moved_absent absent_needed edited
  absent_moved =
      ap (λ (z : ℤ). z +ℤ sum p.cols (λ j. bit (lacks_at q j (moved_d s e j)) -ℤ bit (lacks_at p j (s.kept.D ‼ j)))) t.absent_true
      ∙ sum_moves_by p.cols (λ j. bit (lacks_at p j (s.kept.D ‼ j))) (λ j. bit (lacks_at q j (moved_d s e j))) (λ j. bit (lacks_at p j (price p j))) (λ j. bit (lacks_at q j (price q j)))
      (λ j l. ap (λ (d : ℤ). bit (lacks_at p j d)) (t.d_true j l)) (λ j l. ap (λ (d : ℤ). bit (lacks_at q j d)) (d_moved j l))

  outside_moved : moved_outside s e ≡ outside_amounts q
  unfolding moved_outside outside_amounts edited put
  outside_moved =
      ap (λ (z : ℤ). z +ℤ (bit (outside_at q e.column) -ℤ bit (outside_at p e.column))) t.outside_true
      ∙ sum_local p.cols e.column (λ j. bit (outside_at p j)) (λ j. bit (outside_at q j))
      (λ j h ne. rw (x_still p e j ne, lower_still p e j ne, upper_still p e j ne, lower_mark_still p e j ne, upper_mark_still p e j ne))
      (⊎_elim (λ h. inl h) (λ h. inr (⊎_elim (λ (w : e.kind ≡ 5). rw w) (λ (w : e.kind ≡ 7). rw w) h)) (column_used p e ok))

  wrong_moved : moved_wrong s e ≡ wrong_signs q
  unfolding moved_wrong wrong_signs edited put
  wrong_moved =
      ap (λ (z : ℤ). z +ℤ (bit (wrong_at q e.row) -ℤ bit (wrong_at p e.row))) t.wrong_true
      ∙ sum_local p.rows e.row (λ i. bit (wrong_at p i)) (λ i. bit (wrong_at q i))
      (λ i h ne. rw (y_still p e i ne))
      (⊎_elim (λ h. inl h) (λ h. inr (rw h.2)) (row_used p e ok))

  pub applied_true : True (applied s e)
  unfolding applied moved over_kept edited
  applied_true = record {
    r_true = λ i l. front p.rows (moved_r s e) s.kept.R i l ∙ r_moved i l;
    d_true = λ j l. front p.cols (moved_d s e) s.kept.D j l ∙ d_moved j l;
    c_true = c_moved;
    b_true = b_moved;
    broken_true = broken_moved;
    outside_true = outside_moved;
    wrong_true = wrong_moved;
    absent_true = absent_moved;
  }
