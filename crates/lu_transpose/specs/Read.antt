-- What a transpose asks: columns that can be read, with rows below m, and room for as many entries. Assumes nothing.
use Rattle.std.specs.Prelude.{◌≡◌, List, ℕ, ◌+◌, ◌-◌, ◌<◌, ◌≤◌, length}
use Rattle.doubles.specs.Limits.{max_rows, max_tri_entries}
use Rattle.doubles.specs.Loop.{run}
use Rattle.doubles.specs.Lists.{◌#◌}
use Rattle.lu_factor_rules.specs.Factor.{Matrix}
use Rattle.lu_factor_rules.specs.Transpose.{sum_turn, place_turn, placed_column}

pub record ColumnRead (t : Matrix) (c : ℕ) : Type 0 where
  pub long : c + 1 < length t.starts
  pub rises : t.starts # c ≤ t.starts # (c + 1)
  pub rows_end : t.starts # (c + 1) ≤ length t.rows
  pub vals_end : t.starts # (c + 1) ≤ length t.vals

pub record Read (m : ℕ) (t : Matrix) : Type 0 where
  pub small : m ≤ max_rows
  pub first : t.starts # 0 ≡ 0
  pub starts_long : m < length t.starts
  pub column : (c : ℕ) → c < m → ColumnRead t c
  pub inside : (k : ℕ) → k < t.starts # m → t.rows # k < m
  pub fits : t.starts # m ≤ max_tri_entries
  pub rows_long : t.starts # m ≤ length t.rows

-- ---- what the functions ask

-- the first n cells hold rows
pub record Countable (n : ℕ) (rows : List ℕ) : Type 0 where
  pub few : n ≤ max_tri_entries
  pub rows_long : n ≤ length rows
  pub held : (k : ℕ) → k < n → rows # k < max_rows

-- no sum is too large
pub record Summable (m : ℕ) (c : List ℕ) : Type 0 where
  pub small : m ≤ max_rows
  pub sums : (r : ℕ) → r < m → run sum_turn r c # (r + 1) + run sum_turn r c # r ≤ max_tri_entries

-- there is room before the entries of row r
pub record Room (r : ℕ) (u : Matrix) : Type 0 where
  pub row : r < max_rows
  pub some : 0 < u.starts # r
  pub most : u.starts # r ≤ max_tri_entries

pub record ColumnRoom (t : Matrix) (c : ℕ) (u : Matrix) : Type 0 where
  pub room : (k : ℕ) → k < t.starts # (c + 1) - t.starts # c
      → Room (t.rows # (t.starts # c + k)) (run (place_turn t c) k u)

pub record Roomy (m : ℕ) (t u : Matrix) : Type 0 where
  pub columns : (c : ℕ) → c < m → ColumnRoom t c (run (placed_column t) c u)
