-- What is lent to choose the entering column is long enough, and holds variables of the problem. Assumes nothing.
use Rattle.std.specs.Prelude.{List, [], ℕ, ◌+◌, ◌<◌, ◌≤◌, length, Float}
use Rattle.doubles.specs.Lists.{◌#◌}
use Rattle.cells.specs.Bounds.{Sides}
use Rattle.rules.specs.Plan.{Problem, Workspace, n_of, m_of}
use Rattle.rules.specs.Parts.{workspace_of, no_etas}

-- a workspace's places alone
abbrev pub non_basic_of : List ℕ → List Float → List Float → List Float → List ℕ → Workspace
non_basic_of nb_vars nb_var_vals prices norms flags = workspace_of [] [] nb_vars nb_var_vals prices norms [] flags [] no_etas

-- the places: each has a variable of the problem
pub record Places (P : Problem) (w : Workspace) : Type 0 where
  pub nb_vars_long : n_of P ≤ length w.nb_vars
  pub prices_long : n_of P ≤ length w.prices
  pub place : (c : ℕ) → c < n_of P → w.nb_vars # c < n_of P + m_of P

-- what the choice of the entering column is lent
pub record Choosing (P : Problem) (w : Workspace) : Type 0 where
  pub sides : Sides P
  pub columns : Places P w
  pub vals_long : n_of P ≤ length w.nb_var_vals
  pub norms_long : n_of P ≤ length w.norms
  pub flags_long : n_of P ≤ length w.flags
