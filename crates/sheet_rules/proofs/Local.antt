-- An edit changes its own cell alone: what the plan reads elsewhere stays. Assumes nothing.
use mathlib.Core.Path.{◌≡◌, refl, ap, ◌∙◌}
use mathlib.Core.Logic.{◌⊎◌, inl, inr, ⊎_elim}
use mathlib.Core.Bool.{Bool, true, false}
use mathlib.Core.List.{List}
use Prim.Native.Nat.{ℕ, ◌+◌, ◌*◌, ◌<◌, ◌≤◌}
use native.Mathlib.Nat.{mul-le-mul_right, suc-mul}
use native.Mathlib.Omega.{arith}
use lib.Dec.{eqb}
use lib.ListN.{get_or}
use lib.Seq.{get_or-set_other}
use lib.IntN.{pos}
use borrow.Author.Tests.{eqb-true}
use Rattle.doubles.proofs.Bools.{by_test}
use Rattle.sheet_rules.specs.Sheet.{Plan, a, c, lower, upper, lower_mark, upper_mark, rhs, x, Y}
use Rattle.sheet_rules.specs.Edit.{put, edited, uses_column, uses_row}
use Rattle.sheet_rules.specs.declared.Edit.{Edit}
use Rattle.sheet_rules.specs.Words.{Index}
use Rattle.sheet_rules.proofs.Bools.{none_of, all_three}
use Rattle.sheet_rules.proofs.Ring.{lt_or_ge}

pub put_other : {A : Type 0} (b : Bool) (i k : ℕ) (v d : A) (l : List A) → (k ≡ i → ⊥) → get_or (put b i v l) k d ≡ get_or l k d
unfolding put
put_other true i k v d l ne = get_or-set_other l i k v d ne
put_other false i k v d l ne = refl

-- ---- places of the coefficients
pub place_in : (i m j n : ℕ) → i < m → j < n → i * n + j < m * n
place_in i m j n h k = omega (arith, mul-le-mul_right n h, suc-mul i n)

place_row_holds : (i k j l n : ℕ) → j < n → l < n → i * n + j ≡ k * n + l → i ≡ k
place_row_holds i k j l n h g e = ⊎_elim (λ p. absurd (omega (arith, mul-le-mul_right n p, suc-mul i n))) (λ p. at p (lt_or_ge k i)) (lt_or_ge i k)
  where
    at : k ≤ i → (k < i) ⊎ (i ≤ k) → i ≡ k
    at p (inl q) = absurd (omega (arith, mul-le-mul_right n q, suc-mul k n))
    at p (inr q) = omega arith

place_column : (i k j l n : ℕ) → j < n → l < n → i * n + j ≡ k * n + l → j ≡ l
place_column i k j l n h g e = omega (arith, ap (λ (r : ℕ). r * n) (place_row_holds i k j l n h g e))

-- ---- the indices that a kind uses are in range
module _ (p : Plan) (e : Edit) (ok : Index p e) where
  pub column_used : (e.column < p.cols) ⊎ ((e.kind ≡ 5) ⊎ (e.kind ≡ 7))
  column_used =
      by_test (uses_column e.kind) (λ u. inl (ok.column_in_holds u))
      (λ u. inr (⊎_elim (λ h. inl (eqb-true e.kind 5 h)) (λ h. inr (eqb-true e.kind 7 h)) (none_of (eqb e.kind 5) (eqb e.kind 7) u)))

  pub row_used : (e.row < p.rows) ⊎ ((eqb e.kind 5 ≡ false) × (eqb e.kind 6 ≡ false) × (eqb e.kind 7 ≡ false))
  row_used = by_test (uses_row e.kind) (λ u. inl (ok.row_within u)) (λ u. inr (all_three (eqb e.kind 5) (eqb e.kind 6) (eqb e.kind 7) u))

  -- a coefficient of another column, or of another row
  coef_still : (i j : ℕ) → j < p.cols → (e.column < p.cols → i * p.cols + j ≡ e.row * p.cols + e.column → ⊥) → a (edited p e) i j ≡ a p i j
  unfolding edited put
  coef_still i j h ne = ⊎_elim (λ l. put_other (eqb e.kind 6) (e.row * p.cols + e.column) (i * p.cols + j) e.number (pos 0) p.coefs (ne l)) (λ k. ⊎_elim (λ (w : e.kind ≡ 5). rw w) (λ (w : e.kind ≡ 7). rw w) k) column_used

  pub a_column : (i j : ℕ) → j < p.cols → (j ≡ e.column → ⊥) → a (edited p e) i j ≡ a p i j
  a_column i j h ne = coef_still i j h (λ l w. ne (place_column i e.row j e.column p.cols h l w))

  pub a_row : (i j : ℕ) → j < p.cols → (i ≡ e.row → ⊥) → a (edited p e) i j ≡ a p i j
  a_row i j h ne = coef_still i j h (λ l w. ne (place_row_holds i e.row j e.column p.cols h l w))

-- a number of another column, or of another row
module _ (p : Plan) (e : Edit) where
  pub c_still : (j : ℕ) → (j ≡ e.column → ⊥) → c (edited p e) j ≡ c p j
  unfolding edited
  c_still j ne = put_other _ e.column j _ (pos 0) p.costs ne

  pub x_still : (j : ℕ) → (j ≡ e.column → ⊥) → x (edited p e) j ≡ x p j
  unfolding edited
  x_still j ne = put_other _ e.column j _ (pos 0) p.amounts ne

  pub lower_still : (j : ℕ) → (j ≡ e.column → ⊥) → lower (edited p e) j ≡ lower p j
  unfolding edited
  lower_still j ne = put_other _ e.column j _ (pos 0) _ ne ∙ put_other _ e.column j _ (pos 0) p.lowers ne

  pub upper_still : (j : ℕ) → (j ≡ e.column → ⊥) → upper (edited p e) j ≡ upper p j
  unfolding edited
  upper_still j ne = put_other _ e.column j _ (pos 0) _ ne ∙ put_other _ e.column j _ (pos 0) p.uppers ne

  pub lower_mark_still : (j : ℕ) → (j ≡ e.column → ⊥) → lower_mark (edited p e) j ≡ lower_mark p j
  unfolding edited
  lower_mark_still j ne = put_other _ e.column j _ 0 _ ne ∙ put_other _ e.column j _ 0 p.lower_marks ne

  pub upper_mark_still : (j : ℕ) → (j ≡ e.column → ⊥) → upper_mark (edited p e) j ≡ upper_mark p j
  unfolding edited
  upper_mark_still j ne = put_other _ e.column j _ 0 _ ne ∙ put_other _ e.column j _ 0 p.upper_marks ne

  pub rhs_still : (i : ℕ) → (i ≡ e.row → ⊥) → rhs (edited p e) i ≡ rhs p i
  unfolding edited
  rhs_still i ne = put_other _ e.row i _ (pos 0) p.rhs ne

  pub y_still : (i : ℕ) → (i ≡ e.row → ⊥) → Y (edited p e) i ≡ Y p i
  unfolding edited
  y_still i ne = put_other _ e.row i _ (pos 0) p.mults ne
