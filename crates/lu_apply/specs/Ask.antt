-- What the solves with a factor ask. Assumes nothing.
use Rattle.std.specs.Prelude.{ℕ, ◌+◌, ◌<◌, ◌≤◌, true, false, List, Float, length}
use Rattle.doubles.specs.Limits.{max_rows, places}
use Rattle.doubles.specs.Lists.{◌#◌}
use Rattle.lu_walk.specs.Walk.{shape, Columns}
use Rattle.lu_factor_rules.specs.Factor.{Matrix}

-- the first n of a list are places of a vector
pub record Lists (n : ℕ) (l : List ℕ) : Type 0 where
  pub few : n ≤ places
  pub inside : (k : ℕ) → k < n → l # k < places

-- and a map leads to such
pub record Map (n : ℕ) (l at : List ℕ) : Type 0 where
  pub few : n ≤ places
  pub inside : (k : ℕ) → k < n → l # k < max_rows
  pub in_map : (k : ℕ) → k < n → l # k < length at
  pub leads : (k : ℕ) → k < n → at # (l # k) < places

-- a factor's part that can be solved with: a map of the places, a lower and an upper triangle, and a diagonal
pub record Solid (m : ℕ) (at : List ℕ) (lower upper : Matrix) (diag : List Float) : Type 0 where
  pub map_long : m ≤ length at
  pub leads : (r : ℕ) → r < m → at # r < m
  pub lower_columns : Columns (shape true m lower.starts lower.rows)
  pub upper_columns : Columns (shape false m upper.starts upper.rows)
  pub lower_vals : (j : ℕ) → j < m → lower.starts # (j + 1) ≤ length lower.vals
  pub upper_vals : (j : ℕ) → j < m → upper.starts # (j + 1) ≤ length upper.vals
  pub diag_long : m ≤ length diag
