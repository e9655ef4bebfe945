-- What the functions ask of the eta store. The definitions that their contracts cite are those of `rules`. Assumes nothing.
use Rattle.std.specs.Prelude.{ℕ, ◌+◌, ◌<◌, ◌≤◌, length}
use Rattle.doubles.specs.Limits.{places}
use Rattle.doubles.specs.Lists.{◌#◌}
use Rattle.rules.specs.Plan.{Etas}

-- column k stands within the arrays, and its places within a vector
pub record ReadableCol (h : Etas) (k : ℕ) : Type 0 where
  pub leaving_long : k < length h.leaving
  pub starts_long : k + 1 < length h.starts
  pub leaves : h.leaving # k < places
  pub rises : h.starts # k ≤ h.starts # (k + 1)
  pub rows_long : h.starts # (k + 1) ≤ length h.rows
  pub coeffs_long : h.starts # (k + 1) ≤ length h.coeffs
  pub rows : (i : ℕ) → h.starts # k ≤ i → i < h.starts # (k + 1) → h.rows # i < places

-- so do the first n columns
pub record Readable (h : Etas) (n : ℕ) : Type 0 where
  pub column : (k : ℕ) → k < n → ReadableCol h k
