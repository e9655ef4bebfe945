-- What the start is tested from: a problem that fits. What is not lent of it is some plan's. Assumes nothing.
use Rattle.std.specs.Prelude.{List, ℕ, Float}
use Rattle.rules.specs.Parts.{plan_of, problem}
use Rattle.rules.specs.Invariant.{ProblemFits}

pub record Passed (n : ℕ) (costs lowers uppers : List Float) (starts cols : List ℕ) (coeffs : List Float) (ops : List ℕ) (rhs : List Float) (kept : List ℕ) : Type 0 where
  pub rows : ℕ
  pub entries : ℕ
  pub budget : ℕ
  pub tolerance : Float
  pub fits : ProblemFits (problem (plan_of n rows entries budget tolerance costs lowers uppers starts cols coeffs ops rhs) kept)
