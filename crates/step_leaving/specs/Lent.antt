-- What is lent to choose the leaving row is long enough, and holds variables of the problem. Assumes nothing.
use Rattle.std.specs.Prelude.{List, [], ℕ, ◌+◌, ◌<◌, ◌≤◌, length, Float}
use Rattle.doubles.specs.Lists.{◌#◌}
use Rattle.cells.specs.Bounds.{Sides}
use Rattle.rules.specs.Plan.{Problem, Workspace, n_of, m_of}
use Rattle.rules.specs.Parts.{workspace_of, no_etas}

-- a workspace's rows alone, with their dual norms
abbrev pub rows_of : List ℕ → List Float → List Float → Workspace
rows_of basic_vars basic_var_vals dual_norms = workspace_of basic_vars basic_var_vals [] [] [] [] dual_norms [] [] no_etas

-- what the choice of the leaving row is lent: each row has a variable of the problem
pub record Leaving (P : Problem) (w : Workspace) : Type 0 where
  pub sides : Sides P
  pub basic_vars_long : m_of P ≤ length w.basic_vars
  pub basic_var_vals_long : m_of P ≤ length w.basic_var_vals
  pub dual_norms_long : m_of P ≤ length w.dual_norms
  pub row : (r : ℕ) → r < m_of P → w.basic_vars # r < n_of P + m_of P
