-- The part of a problem that a call's run reads, and where a basic column stands. Assumes nothing.
use Rattle.std.specs.Prelude.{◌≡◌, List, [], ℕ, ◌+◌, ◌<◌, length, Float}
use Rattle.doubles.specs.Num.{f0}
use Rattle.doubles.specs.Lists.{◌#◌}
use Rattle.rules.specs.Plan.{Problem}
use Rattle.rules.specs.Parts.{plan_of, problem}
use Rattle.state.specs.Packed.{packed}

-- what a step reads (step_refactor:Left, stepped), and the budget
abbrev pub called_of : ℕ → ℕ → List Float → List Float → List ℕ → List ℕ → List Float → List ℕ → List ℕ → Problem
called_of n budget lowers uppers starts cols coeffs ops kept =
    problem (plan_of n 0 0 budget f0 [] lowers uppers starts cols coeffs ops []) kept

-- column j is basic in this row
pub record StandsIn (n : ℕ) (kept N : List ℕ) (D : List Float) (j row : ℕ) : Type 0 where
  pub column : j < n
  pub row_inside : row < length kept
  pub cell : (packed N D).var_states # j ≡ n + row
