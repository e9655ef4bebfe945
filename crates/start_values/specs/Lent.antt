-- The parts of a problem that a function is lent, the others empty, and what the functions ask of them. Assumes nothing.
use Rattle.std.specs.Prelude.{List, [], ℕ, ◌≤◌, length, Float}
use Rattle.doubles.specs.Num.{f0}
use Rattle.rules.specs.Plan.{Plan, Problem}
use Rattle.rules.specs.Parts.{plan_of, problem}

-- costs and bounds by columns
abbrev pub costed : ℕ → List Float → List Float → List Float → Plan
costed n costs lowers uppers = plan_of n 0 0 0 f0 costs lowers uppers [] [] [] [] []

-- rows with their right sides
abbrev pub sided : List ℕ → List ℕ → List Float → List Float → List ℕ → Problem
sided starts cols coeffs rhs kept = problem (plan_of 0 0 0 0 f0 [] [] [] starts cols coeffs [] rhs) kept

pub record Columns (n : ℕ) (costs lowers uppers : List Float) : Type 0 where
  pub costs_long : n ≤ length costs
  pub lowers_long : n ≤ length lowers
  pub uppers_long : n ≤ length uppers
