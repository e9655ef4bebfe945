-- An edit that 11, 12 and 14 (before the edit) let pass, and C, B and the counts after it. Assumes nothing.
use Rattle.std.specs.Prelude.{not, List, ℕ, ◌+◌, ◌*◌, ◌≤◌, ◌<◌, length, ℤ, nat_abs, ◌+ℤ◌, ◌-ℤ◌, ◌*ℤ◌}
use Rattle.doubles.specs.Limits.{max_coefficient}
use Rattle.doubles.specs.Lists.{◌#◌}
use Rattle.sheet_rules.specs.Sum.{◌‼◌, sum, bit}
use Rattle.sheet_rules.specs.Sheet.{Sheet, holds, term, lacks}
use Rattle.sheet_rules.specs.Edit.{moved_c, moved_b, moved_broken, moved_outside, moved_wrong, moved_absent}
use Rattle.sheet_rules.specs.Words.{Sized, Index, NumberIn, Sound}
use Rattle.sheet_rules.specs.declared.Edit.{Edit}
use Rattle.sheet_change_moves.specs.declared.Totals.{Totals}

pub record Ready (s : Sheet) (e : Edit) : Type 0 where
  pub sized : Sized s
  pub index : Index s.plan e
  pub number : NumberIn e
  pub sound : Sound e s

-- a column's coefficients are there and small
pub record ColumnSmall (m n j : ℕ) (coefs : List ℤ) : Type 0 where
  pub column_in_holds : j < n
  pub there : m * n ≤ length coefs
  pub at : (i : ℕ) → i < m → nat_abs (coefs ‼ (i * n + j)) ≤ max_coefficient

-- a row's
pub record RowSmall (m n i : ℕ) (coefs : List ℤ) : Type 0 where
  pub row_within : i < m
  pub there : m * n ≤ length coefs
  pub at : (j : ℕ) → j < n → nat_abs (coefs ‼ (i * n + j)) ≤ max_coefficient

-- the change in the first count when every R moves by its coefficient of column j times z
abbrev pub broken_change : (m n j : ℕ) → ℤ → List ℤ → List ℤ → List ℕ → List ℤ → ℤ
broken_change m n j z coefs rhs ops r = sum m (λ i. bit (not (holds (ops # i) (r ‼ i +ℤ coefs ‼ (i * n + j) *ℤ z) (rhs ‼ i))) -ℤ bit (not (holds (ops # i) (r ‼ i) (rhs ‼ i))))

-- in the columns' part of B and in the last count when every D falls by its coefficient of row i times z
abbrev pub terms_change : (n i : ℕ) → ℤ → List ℤ → List ℤ → List ℤ → List ℕ → List ℕ → List ℤ → ℤ
terms_change n i z coefs l u lm um d = sum n (λ j. term (d ‼ j -ℤ coefs ‼ (i * n + j) *ℤ z) (l ‼ j) (u ‼ j) (lm # j) (um # j) -ℤ term (d ‼ j) (l ‼ j) (u ‼ j) (lm # j) (um # j))

abbrev pub absent_change : (n i : ℕ) → ℤ → List ℤ → List ℕ → List ℕ → List ℤ → ℤ
absent_change n i z coefs lm um d = sum n (λ j. bit (lacks (d ‼ j -ℤ coefs ‼ (i * n + j) *ℤ z) (lm # j) (um # j)) -ℤ bit (lacks (d ‼ j) (lm # j) (um # j)))

unfoldable pub totals_after : Sheet → Edit → Totals
totals_after s e = record { cost = moved_c s e; floor = moved_b s e; broken = moved_broken s e; outside = moved_outside s e; wrong = moved_wrong s e; absent = moved_absent s e }
