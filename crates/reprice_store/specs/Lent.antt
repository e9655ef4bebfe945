-- What the own part of a repricing asks, and the definition of its part where eta columns are stored. Assumes nothing.
use Rattle.std.specs.Prelude.{List, ℕ, ◌<◌, length, Float}
use Rattle.lu_factor_rules.specs.Factor.{factorize}
use Rattle.rules.specs.Plan.{Problem, State, m_of}
use Rattle.rules.specs.Parts.{plan_of, problem, rowed}
use Rattle.rules.specs.Invariant.{ProblemFits, Fits}
use Rattle.basis_columns.specs.Columns.{ByColumns}
use Rattle.state.specs.Packed.{Sized, state_in}
use Rattle.state.specs.declared.Tally.{Tally}
use Rattle.reprice_rules.specs.Reprice.{Ready, basis_now, factored_now, or_halts, then_priced}

-- the plan with its costs fits, and so does the state that was taken up
pub record Pricing (n : ℕ) (costs : List Float) (starts cols : List ℕ) (coeffs : List Float) (kept : List ℕ)
    (N : List ℕ) (D : List Float) (F : List ℕ) (G : List Float) (t : Tally) : Type 0 where
  pub rows : ℕ
  pub entries : ℕ
  pub budget : ℕ
  pub tolerance : Float
  pub lowers : List Float
  pub uppers : List Float
  pub ops : List ℕ
  pub rhs : List Float
  pub sized : Sized N D
  pub problem_fits : ProblemFits
      (problem (plan_of n rows entries budget tolerance costs lowers uppers starts cols coeffs ops rhs) kept)
  pub state_fits : Fits
      (problem (plan_of n rows entries budget tolerance costs lowers uppers starts cols coeffs ops rhs) kept)
      (state_in N D F G t)

-- the same, of a function that is lent the problem by columns
pub record PricingBy (n : ℕ) (costs : List Float) (kept S R : List ℕ) (X : List Float) (N : List ℕ) (D : List Float)
    (F : List ℕ) (G : List Float) (t : Tally) : Type 0 where
  pub starts : List ℕ
  pub cols : List ℕ
  pub coeffs : List Float
  pub pricing : Pricing n costs starts cols coeffs kept N D F G t
  pub by_columns : ByColumns (rowed n starts cols coeffs kept) S R X
  pub starts_long : n < length S

-- the own part where eta columns are stored
unfoldable pub anew_of : Problem → State → Ready
anew_of P s = then_priced P (or_halts (factorize (m_of P) (basis_now P s)) (factored_now s))
