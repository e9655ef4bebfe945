-- What holds of a factor in the making, at the start and after every column. Assumes nothing.
use Rattle.std.specs.Prelude.{◌≡◌, List, ℕ, zero, suc, ◌+◌, ◌-◌, ◌<◌, ◌≤◌, length}
use Rattle.doubles.specs.Limits.{max_rows, max_tri_entries}
use Rattle.doubles.specs.Loop.{table}
use Rattle.doubles.specs.Lists.{◌#◌}
use Rattle.sparse.specs.Scattered.{trues}
use Rattle.lu_factor_rules.specs.Factor.{Partial, Parts, is_pivot}

-- the entries above the diagonal of n columns
unfoldable pub triangle : ℕ → ℕ
triangle zero = 0
triangle (suc n) = triangle n + n

-- every array has its length
pub record Long (f : Partial) : Type 0 where
  pub order_long : length f.order ≡ max_rows
  pub number_long : length f.number ≡ max_rows
  pub lower_starts_long : length f.lower_starts ≡ max_rows + 1
  pub upper_starts_long : length f.upper_starts ≡ max_rows + 1
  pub diag_long : length f.diag ≡ max_rows

pub record LongParts (t : Parts) : Type 0 where
  pub lrows_long : length t.lower.rows ≡ max_tri_entries
  pub lvals_long : length t.lower.vals ≡ max_tri_entries
  pub urows_long : length t.upper.rows ≡ max_tri_entries
  pub uvals_long : length t.upper.vals ≡ max_tri_entries

-- starts that begin at 0, rise, and end at the entries in use
pub record Starts (i : ℕ) (starts : List ℕ) (count : ℕ) : Type 0 where
  pub first : starts # 0 ≡ 0
  pub last : starts # i ≡ count
  pub rises : (j : ℕ) → j < i → starts # j ≤ starts # (j + 1)
  pub most : (j : ℕ) → j ≤ i → starts # j ≤ count

pub record Sound (m : ℕ) (f : Partial) : Type 0 where
  pub small : m ≤ max_rows
  pub made_most : f.made ≤ m
  pub long : Long f
  pub lrows_long : length f.lower.rows ≡ max_tri_entries
  pub lvals_long : length f.lower.vals ≡ max_tri_entries
  pub urows_long : length f.upper.rows ≡ max_tri_entries
  pub uvals_long : length f.upper.vals ≡ max_tri_entries
  -- as many pivot rows as columns
  pub pivots : trues (table m (λ r. is_pivot f.number f.made r)) ≡ f.made
  -- "at most 4,560 entries each"
  pub lower_most : f.lower.count + triangle (m - f.made) ≤ triangle m
  pub upper_most : f.upper.count ≤ triangle f.made
  -- a row's number is one of the first, or none
  pub apart : (r : ℕ) → r < m → f.made ≤ f.number # r → m ≤ f.number # r
  pub lower_starts_holds : Starts f.made f.lower_starts f.lower.count
  pub lower_rows : (k : ℕ) → k < f.lower.count → f.lower.rows # k < m
  -- rows of L's column j are pivoted after j
  pub after : (j k : ℕ) → j < f.made → f.lower_starts # j ≤ k → k < f.lower_starts # (j + 1)
      → j < f.number # (f.lower.rows # k)
