-- What is lent to the two passes and to the ratio on prices is long enough for the row's list. Assumes nothing.
use Rattle.std.specs.Prelude.{List, [], ℕ, ◌<◌, ◌≤◌, length, Float}
use Rattle.doubles.specs.Limits.{places}
use Rattle.doubles.specs.Lists.{◌#◌}
use Rattle.rules.specs.Plan.{Workspace}
use Rattle.rules.specs.Parts.{workspace_of, no_etas}
use Rattle.rules.specs.declared.LeavingVar.{LeavingVar}

-- a workspace's prices and flags alone, and with the values of both kinds
abbrev pub priced_of : List Float → List ℕ → Workspace
priced_of prices flags = workspace_of [] [] [] [] prices [] [] flags [] no_etas

abbrev pub columns_of : List Float → List Float → List Float → List ℕ → Workspace
columns_of basic_var_vals nb_var_vals prices flags = workspace_of [] basic_var_vals [] nb_var_vals prices [] [] flags [] no_etas

-- column c: it stands within the row's vector, and has a price and flags
pub record Column (w : Workspace) (c : ℕ) : Type 0 where
  pub inside : c < places
  pub priced : c < length w.prices
  pub flagged : c < length w.flags

-- what the two passes are lent
pub record Passing (w : Workspace) (list : List ℕ) (count : ℕ) : Type 0 where
  pub count_fits : count ≤ places
  pub column : (k : ℕ) → k < count → Column w (list # k)

-- what the ratio is lent
pub record Pricing (w : Workspace) (l : LeavingVar) (list : List ℕ) (count : ℕ) : Type 0 where
  pub passing : Passing w list count
  pub valued : (k : ℕ) → k < count → list # k < length w.nb_var_vals
  pub row_inside : l.row < length w.basic_var_vals
