-- What the functions ask of the arrays that they are lent. The definitions that their contracts cite are those of `rules`. Assumes nothing.
use Rattle.std.specs.Prelude.{ℕ, ◌+◌, ◌<◌, ◌≤◌}
use Rattle.doubles.specs.Limits.{places}
use Rattle.rules.specs.Plan.{Problem, n_of, m_of}
use Rattle.plan.specs.Kept.{bare, RowReads}

-- kept row r can be read, and each column of it has a cell, as has its slack
pub record RowLent (P : Problem) (cells r : ℕ) : Type 0 where
  pub inside : r < m_of P
  pub reads : RowReads (bare P) cells r
  pub slack : n_of P + r < cells

-- all kept rows, and the cells of the variables: columns first, then slacks
pub record RowsLent (P : Problem) (cells : ℕ) : Type 0 where
  pub columns : n_of P ≤ places
  pub row : (r : ℕ) → r < m_of P → RowLent P cells r
