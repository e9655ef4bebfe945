-- A variable's column on a blank vector, from the matrix by columns. Assumes nothing.
use Rattle.std.specs.Prelude.{true, false, List, ℕ, ◌+◌, ◌-◌, ◌<◌, ◌≤◌, ltb, length, Float}
use Rattle.doubles.specs.Num.{f1}
use Rattle.doubles.specs.Limits.{places}
use Rattle.doubles.specs.Lists.{◌#◌, part}
use Rattle.sparse.specs.Scattered.{Sv, blank, put_at, loaded}

-- the entries from S # v up to S # (v + 1), or the slack's own row with 1.0
unfoldable pub column_on : List ℕ → List ℕ → List Float → ℕ → ℕ → Sv
column_on S R X n v =
    let a = S # v in
    let b = S # (v + 1) in
    elim (ltb v n) [ true ↦ loaded (part a b R) (part a b X) (b - a) blank | false ↦ put_at blank (v - n) f1 ]

-- the column can be read, and its rows are places of a vector
pub record ColumnLent (S R : List ℕ) (X : List Float) (n v : ℕ) : Type 0 where
  pub starts_long : v < n → v + 1 < length S
  pub rises : v < n → S # v ≤ S # (v + 1)
  pub rows_long : v < n → S # (v + 1) ≤ length R
  pub coeffs_long : v < n → S # (v + 1) ≤ length X
  pub row : v < n → (k : ℕ) → S # v ≤ k → k < S # (v + 1) → R # k < places
  pub own : n ≤ v → v - n < places
