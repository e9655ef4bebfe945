-- The parts of a plan that a function is lent, the others empty, and what the functions ask of them. Assumes nothing.
use Rattle.std.specs.Prelude.{◌≡◌, List, [], ℕ, ◌+◌, ◌<◌, ◌≤◌, length, Float}
use Rattle.doubles.specs.Num.{f0}
use Rattle.doubles.specs.Lists.{◌#◌, over}
use Rattle.rules.specs.Plan.{Plan}
use Rattle.rules.specs.Parts.{plan_of}

-- column numbers by rows
abbrev pub rows_of : ℕ → ℕ → List ℕ → List ℕ → Plan
rows_of n m starts cols = plan_of n m 0 0 f0 [] [] [] starts cols [] [] []

-- the bounds of columns
abbrev pub bounds_of : ℕ → List Float → List Float → Plan
bounds_of n lowers uppers = plan_of n 0 0 0 f0 [] lowers uppers [] [] [] [] []

-- what an empty row says
abbrev pub empties_of : ℕ → List ℕ → List ℕ → List Float → Plan
empties_of m starts ops rhs = plan_of 0 m 0 0 f0 [] [] [] starts [] [] ops rhs

-- row i of the starts S is a part of n cells
pub record RowIn (S : List ℕ) (n i : ℕ) : Type 0 where
  pub has : i + 1 < length S
  pub rises : S # i ≤ S # (i + 1)
  pub ends : S # (i + 1) ≤ n

pub record Rows (m : ℕ) (S : List ℕ) (n : ℕ) : Type 0 where
  pub row : (i : ℕ) → i < m → RowIn S n i

-- xs is written over the front of l, and counted
pub record Front (xs l : List ℕ) (k : ℕ) (l' : List ℕ) : Type 0 where
  pub counted : k ≡ length xs
  pub cells : l' ≡ over xs l
