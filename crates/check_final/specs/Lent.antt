-- The parts of a problem and of a workspace that a function is lent, the others empty, and what the functions ask of them. Assumes nothing.
use Rattle.std.specs.Prelude.{true, false, List, [], ℕ, ◌+◌, ◌<◌, ◌≤◌, length, Float}
use Rattle.std.specs.Float.Ieee.{lt}
use Rattle.doubles.specs.Num.{f0}
use Rattle.doubles.specs.Limits.{vars}
use Rattle.doubles.specs.Lists.{◌#◌}
use Rattle.rules.specs.Plan.{Problem, Workspace, n_of, m_of}
use Rattle.rules.specs.Parts.{plan_of, problem, workspace_of, no_etas}
use Rattle.rules.specs.FinalCheck.{worst_of}
use Rattle.rules.specs.declared.Worst.{Worst}
use Rattle.cells.specs.Bounds.{Sides}
use Rattle.plan.specs.Kept.{bare, RowReads as Kept-as-RowReads}

-- where each variable stands, and its value there
abbrev pub valued_of : List ℕ → List Float → List Float → Workspace
valued_of var_states basic_var_vals nb_var_vals = workspace_of [] basic_var_vals [] nb_var_vals [] [] [] [] var_states no_etas

-- the sizes alone
abbrev pub sizes_of : ℕ → List ℕ → Problem
sizes_of n kept = problem (plan_of n 0 0 0 f0 [] [] [] [] [] [] [] []) kept

-- what the rows are; what is measured; and the tolerance too
abbrev pub rows_of : ℕ → List ℕ → List ℕ → List Float → List Float → List ℕ → Problem
rows_of n starts cols coeffs rhs kept = problem (plan_of n 0 0 0 f0 [] [] [] starts cols coeffs [] rhs) kept

abbrev pub checked_of : ℕ → Float → List Float → List Float → List ℕ → List ℕ → List Float → List ℕ → List Float → List ℕ → Problem
checked_of n t lowers uppers starts cols coeffs ops rhs kept = problem (plan_of n 0 0 0 t [] lowers uppers starts cols coeffs ops rhs) kept

abbrev pub measured_of : ℕ → List Float → List Float → List ℕ → List ℕ → List Float → List ℕ → List Float → List ℕ → Problem
measured_of n lowers uppers starts cols coeffs ops rhs kept = checked_of n f0 lowers uppers starts cols coeffs ops rhs kept

-- the cell of variable v is a place or a row
pub record Placed (n : ℕ) (w : Workspace) (v : ℕ) : Type 0 where
  pub has_cell : v < length w.var_states
  pub vals_long : n ≤ length w.nb_var_vals
  pub cell_fits : w.var_states # v < n + length w.basic_var_vals

pub record Valued (P : Problem) (w : Workspace) : Type 0 where
  pub room : n_of P + m_of P ≤ vars
  pub placed : (v : ℕ) → v < n_of P + m_of P → Placed (n_of P) w v

-- kept row r can be read, its column numbers are columns, and it has a right side
pub record RowReads (P : Problem) (r : ℕ) : Type 0 where
  pub entries : Kept-as-RowReads (bare P) (n_of P) r
  pub has_rhs : P.kept # r < length P.plan.rhs

pub record RowsRead (P : Problem) : Type 0 where
  pub room : n_of P + m_of P ≤ vars
  pub row : (r : ℕ) → r < m_of P → RowReads P r

-- what the final check is lent
pub record Checkable (P : Problem) : Type 0 where
  pub sides : Sides P
  pub rows : RowsRead P

-- the turn at a place whose excess is x
unfoldable pub worse_of : ℕ → Float → Worst → Worst
worse_of k x w = elim (lt w.excess x) [ true ↦ worst_of k x | false ↦ w ]
