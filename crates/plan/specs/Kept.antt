-- Kept rows that can be read. Assumes nothing.
use Rattle.std.specs.Prelude.{ℕ, ◌+◌, ◌<◌, ◌≤◌, length}
use Rattle.doubles.specs.Lists.{◌#◌}
use Rattle.rules.specs.Plan.{Problem, m_of, row_cols}
use Rattle.rules.specs.Parts.{rowed}

-- rows alone
abbrev pub bare : Problem → Problem
bare P = rowed 0 P.plan.starts P.plan.cols P.plan.coeffs P.kept

-- kept row r is a part of the entries, and its columns are below w. Contracts say it of the bare problem.
pub record RowReads (P : Problem) (w r : ℕ) : Type 0 where
  pub has : P.kept # r + 1 < length P.plan.starts
  pub rises : P.plan.starts # (P.kept # r) ≤ P.plan.starts # (P.kept # r + 1)
  pub cols_end : P.plan.starts # (P.kept # r + 1) ≤ length P.plan.cols
  pub coeffs_end : P.plan.starts # (P.kept # r + 1) ≤ length P.plan.coeffs
  pub col : (k : ℕ) → k < length (row_cols P.plan (P.kept # r)) → row_cols P.plan (P.kept # r) # k < w

pub record RowsRead (P : Problem) (w : ℕ) : Type 0 where
  pub row : (r : ℕ) → r < m_of P → RowReads P w r
