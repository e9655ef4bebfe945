-- A plan's sizes, coefficients and costs: all that the tests between the stages read. Assumes nothing.
use Rattle.std.specs.Prelude.{List, [], ℕ, ℤ}
use Rattle.sheet_rules.specs.Sheet.{Plan, plan_of}

abbrev pub costed : ℕ → ℕ → List ℤ → List ℤ → Plan
costed m n co c = plan_of m n co c [] [] [] [] [] [] [] []
