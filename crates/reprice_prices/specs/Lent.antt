-- The part of a problem that is lent, and what a pricing asks. proofs/Laws.antt has it from a problem and a state that
-- fit. Assumes nothing.
use Rattle.std.specs.Prelude.{List, [], ℕ, ◌+◌, ◌<◌, ◌≤◌, length, Float}
use Rattle.doubles.specs.Num.{f0}
use Rattle.doubles.specs.Limits.{max_rows, max_columns}
use Rattle.doubles.specs.Lists.{◌#◌}
use Rattle.rules.specs.Plan.{Problem}
use Rattle.rules.specs.Parts.{plan_of, problem, rowed}
use Rattle.basis_columns.specs.Columns.{ByColumns}
use Rattle.state.specs.Packed.{packed, Sized}

-- costs, rows, and the kept rows
abbrev pub priced_of : ℕ → List Float → List ℕ → List ℕ → List Float → List ℕ → Problem
priced_of n costs starts cols coeffs kept = problem (plan_of n 0 0 0 f0 costs [] [] starts cols coeffs [] []) kept

-- S, R and X are some rows by columns, and the variable at each place is one
pub record Prices (n : ℕ) (costs : List Float) (kept S R : List ℕ) (X : List Float) (N : List ℕ) (D : List Float)
    : Type 0 where
  pub starts : List ℕ
  pub cols : List ℕ
  pub coeffs : List Float
  pub by_columns : ByColumns (rowed n starts cols coeffs kept) S R X
  pub starts_long : n < length S
  pub costs_long : n ≤ length costs
  pub columns_most : n ≤ max_columns
  pub rows_most : length kept ≤ max_rows
  pub sized : Sized N D
  pub var : (c : ℕ) → c < n → (packed N D).nb_vars # c < n + length kept
