-- The part of a plan that refusal 2 reads, the rest empty, and what its functions ask of it. Assumes nothing.
use Rattle.std.specs.Prelude.{List, [], ℕ, ◌≤◌, length, Float}
use Rattle.rules.specs.Plan.{Plan}
use Rattle.rules.specs.Parts.{plan_of}

-- everything that is tested by itself
abbrev pub numbers_of : ℕ → ℕ → ℕ → Float → List Float → List Float → List Float → List Float → List ℕ → List Float → Plan
numbers_of n m e t costs lowers uppers coeffs ops rhs = plan_of n m e 0 t costs lowers uppers [] [] coeffs ops rhs

-- what is tested by itself is there
pub record Numbers (p : Plan) : Type 0 where
  pub costs_long : p.columns ≤ length p.costs
  pub lowers_long : p.columns ≤ length p.lowers
  pub uppers_long : p.columns ≤ length p.uppers
  pub coeffs_long : p.entries ≤ length p.coeffs
  pub ops_long : p.rows ≤ length p.ops
  pub rhs_long : p.rows ≤ length p.rhs
