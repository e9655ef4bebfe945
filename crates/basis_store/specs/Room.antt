-- What the functions ask of the eta store, and the workspace with a column pushed. Assumes nothing.
use Rattle.std.specs.Prelude.{ℕ, ◌+◌, ◌<◌, ◌≤◌, Float}
use Rattle.doubles.specs.Limits.{eta_columns, eta_entries}
use Rattle.doubles.specs.Lists.{◌#◌}
use Rattle.sparse.specs.Scattered.{Sv}
use Rattle.rules.specs.Plan.{Etas, Workspace}
use Rattle.rules.specs.Parts.{workspace_of}
use Rattle.rules.specs.Basis.{push_eta}

-- there is room for a column of k entries after the first n columns
pub record Room (h : Etas) (n k : ℕ) : Type 0 where
  pub column_room : n < eta_columns
  pub entries_room : h.starts # n + k ≤ eta_entries

-- the store alone changes
abbrev pub column_pushed : Sv → ℕ → Float → ℕ → Workspace → Workspace
column_pushed c row pivot n w =
    workspace_of w.basic_vars w.basic_var_vals w.nb_vars w.nb_var_vals w.prices w.norms
    w.dual_norms w.flags w.var_states (push_eta c row pivot n w.etas)
