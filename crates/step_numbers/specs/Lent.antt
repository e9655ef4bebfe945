-- What the functions are lent, and what they ask of it. Assumes nothing.
use Rattle.std.specs.Prelude.{◌≡◌, List, [], ℕ, ◌<◌, ◌≤◌, Float}
use Rattle.doubles.specs.Limits.{places}
use Rattle.doubles.specs.Lists.{◌#◌}
use Rattle.rules.specs.Plan.{Workspace}
use Rattle.rules.specs.Parts.{workspace_of, no_etas}

-- a workspace's numbers that a step reckons anew at listed places, alone
abbrev pub numbers_of : List Float → List Float → List Float → Workspace
numbers_of basic_var_vals prices norms = workspace_of [] basic_var_vals [] [] prices norms [] [] [] no_etas

-- the first n places of a list are places of a vector and cells of an array of `cells`, each once
pub record Listing (cells n : ℕ) (list : List ℕ) : Type 0 where
  pub few : n ≤ places
  pub place : (k : ℕ) → k < n → list # k < places
  pub cell : (k : ℕ) → k < n → list # k < cells
  pub once : (j k : ℕ) → j < n → k < n → list # j ≡ list # k → j ≡ k
