-- What is lent to the two passes and to the ratio is long enough, and holds variables of the problem. Assumes nothing.
use Rattle.std.specs.Prelude.{List, [], ℕ, ◌+◌, ◌<◌, ◌≤◌, length, Float}
use Rattle.doubles.specs.Limits.{places}
use Rattle.doubles.specs.Lists.{◌#◌}
use Rattle.sparse.specs.Scattered.{Within}
use Rattle.cells.specs.Bounds.{Sides}
use Rattle.rules.specs.Plan.{Problem, Workspace, n_of, m_of}
use Rattle.rules.specs.Parts.{workspace_of, no_etas}
use Rattle.rules.specs.declared.Entering.{Entering}
use Rattle.step_choose.specs.Lent.{Places}

-- a workspace's rows alone
abbrev pub basic_of : List ℕ → List Float → Workspace
basic_of basic_vars basic_var_vals = workspace_of basic_vars basic_var_vals [] [] [] [] [] [] [] no_etas

-- the rows: each has a variable of the problem
pub record Rows (P : Problem) (w : Workspace) : Type 0 where
  pub basic_vars_long : m_of P ≤ length w.basic_vars
  pub basic_var_vals_long : m_of P ≤ length w.basic_var_vals
  pub row : (r : ℕ) → r < m_of P → w.basic_vars # r < n_of P + m_of P

-- listed rows, which stand within a scattered vector
pub record Listed (P : Problem) (list : List ℕ) (count : ℕ) : Type 0 where
  pub rows_fit : m_of P ≤ places
  pub count_fits : count ≤ places
  pub rows_listed : Within (m_of P) count list

-- what the two passes are lent
pub record Passing (P : Problem) (w : Workspace) (list : List ℕ) (count : ℕ) : Type 0 where
  pub sides : Sides P
  pub rows : Rows P w
  pub listing : Listed P list count

-- what the ratio is lent
pub record Stepping (P : Problem) (w : Workspace) (e : Entering) (list : List ℕ) (count : ℕ) : Type 0 where
  pub sides : Sides P
  pub rows : Rows P w
  pub listing : Listed P list count
  pub columns : Places P w
  pub vals_long : n_of P ≤ length w.nb_var_vals
  pub col_inside : e.col < n_of P
