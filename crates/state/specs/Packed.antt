-- The state in two lists: each array of the workspace is a section at a fixed place. src/lib.rt has the same names for
-- the code. Assumes nothing.
use Rattle.std.specs.Prelude.{◌≡◌, List, [], ℕ, ◌+◌, length, take, drop, Float}
use Rattle.doubles.specs.Limits.{max_rows, max_columns, vars, eta_columns, eta_entries}
use Rattle.rules.specs.Plan.{Workspace, State}
use Rattle.rules.specs.Parts.{etas_of, workspace_of, factored_of, state_with}
use Rattle.state.specs.declared.Tally.{Tally}

-- k cells from a on: what is lent by `&xs[a..a + k]`
abbrev pub section : {A : Type 0} → ℕ → ℕ → List A → List A
section a k xs = take k (drop a xs)

-- where the sections of `numbers` begin
abbrev pub basic_vars_at : ℕ
basic_vars_at = 0

abbrev pub nb_vars_at : ℕ
nb_vars_at = basic_vars_at + max_rows

abbrev pub var_states_at : ℕ
var_states_at = nb_vars_at + max_columns

abbrev pub flag_cells_at : ℕ
flag_cells_at = var_states_at + vars

abbrev pub eta_leaving_at : ℕ
eta_leaving_at = flag_cells_at + max_columns

abbrev pub eta_starts_at : ℕ
eta_starts_at = eta_leaving_at + eta_columns

abbrev pub eta_rows_at : ℕ
eta_rows_at = eta_starts_at + (eta_columns + 1)

abbrev pub kept_at : ℕ
kept_at = eta_rows_at + eta_entries

abbrev pub counts_at : ℕ
counts_at = kept_at + max_rows

-- where the sections of `doubles` begin
abbrev pub basic_var_vals_at : ℕ
basic_var_vals_at = 0

abbrev pub nb_var_vals_at : ℕ
nb_var_vals_at = basic_var_vals_at + max_rows

abbrev pub prices_at : ℕ
prices_at = nb_var_vals_at + max_columns

abbrev pub norms_at : ℕ
norms_at = prices_at + max_columns

abbrev pub eta_coeffs_at : ℕ
eta_coeffs_at = norms_at + max_columns

abbrev pub dual_norms_at : ℕ
dual_norms_at = eta_coeffs_at + eta_entries

abbrev pub objective_at : ℕ
objective_at = dual_norms_at + max_rows

abbrev pub packed : List ℕ → List Float → Workspace
packed N D =
    workspace_of
    (section basic_vars_at max_rows N)
    (section basic_var_vals_at max_rows D)
    (section nb_vars_at max_columns N)
    (section nb_var_vals_at max_columns D)
    (section prices_at max_columns D)
    (section norms_at max_columns D)
    (section dual_norms_at max_rows D)
    (section flag_cells_at max_columns N)
    (section var_states_at vars N)
    (etas_of
    (section eta_leaving_at eta_columns N)
    (section eta_starts_at (eta_columns + 1) N)
    (section eta_rows_at eta_entries N)
    (section eta_coeffs_at eta_entries D))

-- the state, with its numbers that stand in no array and the factor's two arrays, whole
abbrev pub state_in : List ℕ → List Float → List ℕ → List Float → Tally → State
state_in N D F G t =
    state_with (packed N D) t.eta_count t.objective t.steps (factored_of t.factored t.factorings F G)

-- the state for a function that isn't lent the factor's arrays
abbrev pub state_at : List ℕ → List Float → Tally → State
state_at N D t = state_in N D [] [] t

-- each array is just the workspace's part, which ends where the kept rows and the objective begin
pub record Sized (N : List ℕ) (D : List Float) : Type 0 where
  pub numbers_long : length N ≡ kept_at
  pub doubles_long : length D ≡ objective_at
