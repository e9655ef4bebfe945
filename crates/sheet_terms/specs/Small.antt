-- What the code asks of the numbers that it is handed. Assumes nothing.
use Rattle.std.specs.Prelude.{List, ℕ, ◌+◌, ◌*◌, ◌≤◌, ◌<◌, length, ℤ, nat_abs}
use Rattle.doubles.specs.Limits.{max_d, max_coefficient, max_multiplier}
use Rattle.sheet_rules.specs.Sum.{◌‼◌}

-- the first n numbers of a list are there, and each is within a limit
pub record Small (limit n : ℕ) (l : List ℤ) : Type 0 where
  pub there : n ≤ length l
  pub at : (j : ℕ) → j < n → nat_abs (l ‼ j) ≤ limit

-- how far one edit can take a price that was within its size
abbrev pub far_d : ℕ
far_d = max_d + 2 * (max_coefficient * max_multiplier)

-- so many coefficients are tested for 0 at once
abbrev pub block : ℕ
block = 8
