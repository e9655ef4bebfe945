-- The changes of R and D, kind by kind. Assumes nothing.
use mathlib.Core.Path.{◌≡◌, sym, ap, ◌∙◌}
use mathlib.Core.Bool.{false}
use Prim.Native.Nat.{ℕ, ◌<◌}
use lib.IntN.{ℤ, pos, neg_ℤ, ◌+ℤ◌, ◌-ℤ◌, ◌*ℤ◌, +ℤ_assoc, +ℤ_invl, +ℤ_idl, +ℤ_idr}
use borrow.Author.Tests.{ne_eqb}
use Rattle.doubles.specs.Limits.{unit}
use Rattle.sheet_rules.specs.Sum.{◌‼◌}
use Rattle.sheet_rules.specs.Sheet.{Plan, Sheet, sheet_of, a, c, x, Y}
use Rattle.sheet_rules.specs.Edit.{moved_r, moved_d}
use Rattle.sheet_rules.specs.Touches.{R, D, touches}
use Rattle.sheet_rules.specs.declared.Edit.{Edit}
use Rattle.sheet_rules.proofs.Touched.{r_still, d_still}
use Rattle.sheet_rules.proofs.Moves.{amount_r, cost_d, coef_r, coef_d, mult_d}
use Rattle.sheet_change_moves.specs.After.{Ready}
use Rattle.sheet_change_after.specs.Change.{PlanReady, row_change, price_change}

back : (r x : ℤ) → neg_ℤ r +ℤ (r +ℤ x) ≡ x
back r x = sym (+ℤ_assoc (neg_ℤ r) r x) ∙ ap (λ (z : ℤ). z +ℤ x) (+ℤ_invl r) ∙ +ℤ_idl x

cancel : (r x y : ℤ) → r +ℤ x ≡ r +ℤ y → x ≡ y
cancel r x y e = sym (back r x) ∙ ap (λ (z : ℤ). neg_ℤ r +ℤ z) e ∙ back r y

module _ (p : Plan) (e : Edit) (g : PlanReady p e) where
  abbrev s : Sheet
  s = sheet_of p g.kept

  abbrev y : Ready s e
  y = g.ready

  abbrev v : ℤ
  v = e.number

  -- ---- R
  none_r : (i : ℕ) → i < p.rows → touches s e (R i) ≡ false → row_change p e i ≡ pos 0
  unfolding row_change moved_r
  none_r i l t = cancel (g.kept.R ‼ i) _ (pos 0) (r_still s e y.index i l t ∙ sym (+ℤ_idr (g.kept.R ‼ i)))

  pub row_1 : e.kind ≡ 1 → (i : ℕ) → row_change p e i ≡ a p i e.column *ℤ (v -ℤ x p e.column)
  unfolding row_change moved_r
  row_1 w i = cancel (g.kept.R ‼ i) _ _ (amount_r s e y.sized y.index w i)

  pub row_6 : e.kind ≡ 6 → (i : ℕ) → i ≡ e.row → row_change p e i ≡ (v -ℤ a p i e.column) *ℤ x p e.column
  unfolding row_change moved_r
  row_6 w i q = rw q (cancel (g.kept.R ‼ e.row) _ _ (coef_r s e y.sized y.index w))

  pub row_6_other : e.kind ≡ 6 → (i : ℕ) → i < p.rows → (i ≡ e.row → ⊥) → row_change p e i ≡ pos 0
  unfolding touches
  row_6_other w i l ne = none_r i l (rw (w, ne_eqb i e.row ne))

  pub row_rest : (e.kind ≡ 1 → ⊥) → (e.kind ≡ 6 → ⊥) → (i : ℕ) → i < p.rows → row_change p e i ≡ pos 0
  unfolding touches
  row_rest h k i l = none_r i l (rw (ne_eqb e.kind 1 h, ne_eqb e.kind 6 k))

  -- ---- D
  none_d : (j : ℕ) → j < p.cols → touches s e (D j) ≡ false → price_change p e j ≡ pos 0
  unfolding price_change moved_d
  none_d j l t = cancel (g.kept.D ‼ j) _ (pos 0) (d_still s e y.index j l t ∙ sym (+ℤ_idr (g.kept.D ‼ j)))

  pub price_2 : e.kind ≡ 2 → (j : ℕ) → j ≡ e.column → price_change p e j ≡ pos unit *ℤ (v -ℤ c p j)
  unfolding price_change moved_d
  price_2 w j q = rw q (cancel (g.kept.D ‼ e.column) _ _ (cost_d s e y.sized y.index w))

  pub price_2_other : e.kind ≡ 2 → (j : ℕ) → j < p.cols → (j ≡ e.column → ⊥) → price_change p e j ≡ pos 0
  unfolding touches
  price_2_other w j l ne = none_d j l (rw (w, ne_eqb j e.column ne))

  pub price_6 : e.kind ≡ 6 → (j : ℕ) → j ≡ e.column → price_change p e j ≡ neg_ℤ ((v -ℤ a p e.row j) *ℤ Y p e.row)
  unfolding price_change moved_d
  price_6 w j q = rw q (cancel (g.kept.D ‼ e.column) _ _ (coef_d s e y.sized y.index w))

  pub price_6_other : e.kind ≡ 6 → (j : ℕ) → j < p.cols → (j ≡ e.column → ⊥) → price_change p e j ≡ pos 0
  unfolding touches
  price_6_other w j l ne = none_d j l (rw (w, ne_eqb j e.column ne))

  pub price_7 : e.kind ≡ 7 → (j : ℕ) → price_change p e j ≡ neg_ℤ (a p e.row j *ℤ (v -ℤ Y p e.row))
  unfolding price_change moved_d
  price_7 w j = cancel (g.kept.D ‼ j) _ _ (mult_d s e y.sized y.index w j)

  pub price_rest : (e.kind ≡ 2 → ⊥) → (e.kind ≡ 6 → ⊥) → (e.kind ≡ 7 → ⊥) → (j : ℕ) → j < p.cols → price_change p e j ≡ pos 0
  unfolding touches
  price_rest h k m j l = none_d j l (rw (ne_eqb e.kind 2 h, ne_eqb e.kind 6 k, ne_eqb e.kind 7 m))
