-- What the solves of a step ask. Assumes nothing.
use Rattle.std.specs.Prelude.{List, [], ℕ, ◌≤◌}
use Rattle.doubles.specs.Num.{f0}
use Rattle.doubles.specs.Limits.{places}
use Rattle.sparse.specs.Scattered.{Sv}
use Rattle.rules.specs.Plan.{Problem, Etas, Factored, State, m_of}
use Rattle.rules.specs.Parts.{workspace_of, state_with}
use Rattle.rules.specs.Basis.{solve_etas_transp, solve_transp}
use Rattle.rules.specs.Invariant.{FactorFits, Vector}
use Rattle.basis_etas.specs.Store.{Readable}
use Rattle.basis_rows.specs.Lent.{RowsLent}

-- the state of which the maps, the eta store and the factor alone are lent
abbrev pub mapped : List ℕ → Etas → ℕ → Factored → State
mapped var_states h k F = state_with (workspace_of [] [] [] [] [] [] [] [] var_states h) k f0 0 F

-- a row solve that starts from y; between the etas and the factor it lists rows too
pub record Transposed (m : ℕ) (h : Etas) (k : ℕ) (F : Factored) (y : Sv) : Type 0 where
  pub etas : Readable h k
  pub factor : FactorFits m F
  pub start : Vector m y
  pub between : Vector m (solve_etas_transp h k y)

-- and the rows that it lists can be read
pub record RowSolve (P : Problem) (cells : ℕ) (h : Etas) (k : ℕ) (F : Factored) (y : Sv) : Type 0 where
  pub solve : Transposed (m_of P) h k F y
  pub rows : RowsLent P cells
  pub few : m_of P ≤ places
  pub solved : Vector (m_of P) (solve_transp (m_of P) F h k y)
