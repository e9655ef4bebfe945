-- The parts of a problem that a function is lent, the others empty, and what the functions ask of them. Assumes nothing.
use Rattle.std.specs.Prelude.{List, [], ℕ, ◌≤◌, length, Float}
use Rattle.doubles.specs.Num.{f0}
use Rattle.doubles.specs.Limits.{max_columns, max_rows}
use Rattle.sparse.specs.Scattered.{Within}
use Rattle.rules.specs.Plan.{Problem, n_of, m_of}
use Rattle.rules.specs.Parts.{plan_of, problem}
use Rattle.plan.specs.Kept.{bare, RowsRead}
use Rattle.start_values.specs.Lent.{Columns}

-- all but comparisons
abbrev pub unruled : ℕ → List Float → List Float → List Float → List ℕ → List ℕ → List Float → List Float → List ℕ → Problem
unruled n costs lowers uppers starts cols coeffs rhs kept = problem (plan_of n 0 0 0 f0 costs lowers uppers starts cols coeffs [] rhs) kept

-- what the start's numbers are reckoned from
pub record Reckonable (P : Problem) : Type 0 where
  pub columns_most : n_of P ≤ max_columns
  pub rows_most : m_of P ≤ max_rows
  pub columns : Columns (n_of P) P.plan.costs P.plan.lowers P.plan.uppers
  pub rows : RowsRead (bare P) (n_of P)
  pub sides : Within (length P.plan.rhs) (m_of P) P.kept

-- the scratch has a cell for each column and each kept row
pub record Scratch (n m : ℕ) (xs slacks norms : List Float) : Type 0 where
  pub vals_long : n ≤ length xs
  pub slacks_long : m ≤ length slacks
  pub norms_long : n ≤ length norms
