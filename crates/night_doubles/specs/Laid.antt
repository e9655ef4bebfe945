-- Entries at the front of the solver's two arrays, and what the conversion asks. Assumes nothing.
use Rattle.std.specs.Prelude.{◌≡◌, ℕ, ◌+◌, List, [], length, replicate, ℤ, Float}
use Rattle.doubles.specs.Num.{f0}
use Rattle.doubles.specs.Limits.{max_entries}
use Rattle.doubles.specs.Lists.{over}
use Rattle.sheet_rules.specs.Sheet.{Plan, plan_of}
use Rattle.night_rules.specs.Doubles.{Entries, nonzeros, row_entries}

-- a plan's coefficients
abbrev pub cells_of : ℕ → ℕ → List ℤ → Plan
cells_of m n co = plan_of m n co [] [] [] [] [] [] [] [] []

-- nothing written yet
pub record Blank (l : List ℕ) (xs : List Float) : Type 0 where
  pub columns_blank : l ≡ replicate max_entries 0
  pub values_blank : xs ≡ replicate max_entries f0

-- the k entries e stand at the front
pub record Laid (e : Entries) (k : ℕ) (l : List ℕ) (xs : List Float) : Type 0 where
  pub columns_counted : k ≡ length e.columns
  pub values_counted : k ≡ length e.values
  pub columns_laid : l ≡ over e.columns (replicate max_entries 0)
  pub values_laid : xs ≡ over e.values (replicate max_entries f0)

-- whatever `at` entries stood at the fronts of l and xs: those of a row's first n columns now stand behind them
pub record RowLaid (row : ℕ → ℤ) (at : ℕ) (l : List ℕ) (xs : List Float) (n k : ℕ) (l' : List ℕ) (xs' : List Float) :
    Type 0 where
  pub row_counted : k ≡ at + nonzeros row n
  pub row_laid : (e : Entries) → Laid e at l xs → Laid (row_entries row n e) k l' xs'
