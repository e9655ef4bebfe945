-- Outside of the touched places R and D stay. Assumes nothing.
use mathlib.Core.Path.{◌≡◌, refl, sym, ap, ◌∙◌, subst}
use mathlib.Core.Bool.{Bool, true, false, ◌||◌}
use mathlib.Core.List.{List}
use Prim.Native.Nat.{ℕ, zero, suc, ◌+◌, ◌-◌, ◌≤◌, ◌<◌}
use native.Mathlib.Omega.{arith}
use lib.Dec.{eqb}
use lib.IntN.{ℤ, pos, ◌+ℤ◌, +ℤ_idr}
use lib.ListN.{length}
use lib.Seq.{set-get_or}
use borrow.Author.Tests.{eqb-true, eqb-false}
use Rattle.doubles.proofs.Loops.{Filled, filled_more, filled_ahead}
use Rattle.sheet_rules.specs.Sum.{◌‼◌}
use Rattle.sheet_rules.specs.Sheet.{Plan}
use Rattle.sheet_rules.specs.declared.Edit.{Edit}
use Rattle.sheet_rules.proofs.Bools.{neither}
use Rattle.sheet_change_after.specs.Change.{PlanReady, row_change, price_change}
use Rattle.sheet_change_after.proofs.Laws.{row_6_other, row_rest, price_2_other, price_6_other, price_rest}
use Rattle.sheet_store_shift.specs.Span.{span_by}
use Rattle.sheet_store_shift.specs.declared.Span.{Span}

-- of n places those outside of the span have no change
pub record Covers (n : ℕ) (change : ℕ → ℤ) (t : Span) : Type 0 where
  pub ordered : t.from ≤ t.end
  pub inside : t.end ≤ n
  pub before : (k : ℕ) → k < t.from → change k ≡ pos 0
  pub after : (k : ℕ) → t.end ≤ k → k < n → change k ≡ pos 0

covers : (every one : Bool) (n i : ℕ) (f : ℕ → ℤ) → (one ≡ true → i < n) → (one ≡ true → (k : ℕ) → k < n → (k ≡ i → ⊥) → f k ≡ pos 0) → (every ≡ false → one ≡ false → (k : ℕ) → k < n → f k ≡ pos 0) → Covers n f (span_by every one n i)
unfolding span_by
covers true one n i f l h g = record { ordered = omega arith; inside = omega arith; before = λ k p. absurd (omega arith); after = λ k p q. absurd (omega arith) }
covers false true n i f l h g = let m = l refl in record { ordered = omega arith; inside = omega arith; before = λ k p. h refl k (omega arith) (λ q. absurd (omega arith)); after = λ k p q. h refl k q (λ w. absurd (omega arith)) }
covers false false n i f l h g = record { ordered = omega arith; inside = omega arith; before = λ k p. absurd (omega arith); after = λ k p q. g refl refl k q }

module _ (p : Plan) (e : Edit) (g : PlanReady p e) where
  pub row_within : eqb e.kind 6 ≡ true → e.row < p.rows
  row_within h = g.ready.index.row_within (rw (eqb-true e.kind 6 h))

  pub rows_cover : {t : Span} → t ≡ span_by (eqb e.kind 1) (eqb e.kind 6) p.rows e.row → Covers p.rows (row_change p e) t
  rows_cover q = rw q (covers (eqb e.kind 1) (eqb e.kind 6) p.rows e.row (row_change p e) row_within (λ h k l ne. row_6_other p e g (eqb-true _ _ h) k l ne) (λ h w k l. row_rest p e g (eqb-false _ _ h) (eqb-false _ _ w) k l))

  one_of : (a b : Bool) {C : Type 0} → (a ≡ true → C) → (b ≡ true → C) → (a || b) ≡ true → C
  one_of true b f h t = f refl
  one_of false b f h t = h t

  pub column_in_holds : (eqb e.kind 2 || eqb e.kind 6) ≡ true → e.column < p.cols
  column_in_holds h = one_of (eqb e.kind 2) (eqb e.kind 6) (λ w. g.ready.index.column_in_holds (rw (eqb-true e.kind 2 w))) (λ w. g.ready.index.column_in_holds (rw (eqb-true e.kind 6 w))) h

  pub columns_cover : {t : Span} → t ≡ span_by (eqb e.kind 7) (eqb e.kind 2 || eqb e.kind 6) p.cols e.column → Covers p.cols (price_change p e) t
  columns_cover q =
      rw q
      (covers (eqb e.kind 7) (eqb e.kind 2 || eqb e.kind 6) p.cols e.column (price_change p e) column_in_holds
      (λ h k l ne. one_of (eqb e.kind 2) (eqb e.kind 6) (λ w. price_2_other p e g (eqb-true _ _ w) k l ne) (λ w. price_6_other p e g (eqb-true _ _ w) k l ne) h)
      (λ h w k l. let b = neither (eqb e.kind 2) (eqb e.kind 6) w in price_rest p e g (eqb-false _ _ b.0) (eqb-false _ _ b.1) (eqb-false _ _ h) k l))

-- ---- an array that a loop moves, and the places that it needn't look at
module _ (change : ℕ → ℤ) (l₀ l : List ℤ) where
  abbrev moved : ℕ → ℤ
  moved k = l₀ ‼ k +ℤ change k

  stays : {i : ℕ} → Filled moved l₀ i l → i < length l₀ → change i ≡ pos 0 → Filled moved l₀ (i + 1) l
  stays {i} fd h z = subst (λ (t : List ℤ). Filled moved l₀ (i + 1) t) (set-get_or l i (pos 0)) (filled_more fd h (filled_ahead fd (pos 0) ∙ sym (ap (λ (c : ℤ). l₀ ‼ i +ℤ c) z ∙ +ℤ_idr (l₀ ‼ i))))

  on : (m : ℕ) {i : ℕ} → Filled moved l₀ i l → i + m ≤ length l₀ → ((k : ℕ) → i ≤ k → k < i + m → change k ≡ pos 0) → Filled moved l₀ (i + m) l
  on zero {i} fd h z = let q : i ≡ i + 0 = omega arith in subst (λ (k : ℕ). Filled moved l₀ k l) q fd
  on (suc m) {i} fd h z = let q : i + m + 1 ≡ i + suc m = omega arith in subst (λ (k : ℕ). Filled moved l₀ k l) q (stays (on m fd (omega arith) (λ k a b. z k a (omega arith))) (omega arith) (z (i + m) (omega arith) (omega arith)))

  pub stay : {i : ℕ} (n : ℕ) → Filled moved l₀ i l → i ≤ n → n ≤ length l₀ → ((k : ℕ) → i ≤ k → k < n → change k ≡ pos 0) → Filled moved l₀ n l
  stay {i} n fd a b z = let q : i + (n - i) ≡ n = omega arith in subst (λ (k : ℕ). Filled moved l₀ k l) q (on (n - i) fd (omega arith) (λ k u v. z k u (omega arith)))
