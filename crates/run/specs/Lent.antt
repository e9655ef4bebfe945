-- What a run asks. Assumes nothing.
use Rattle.std.specs.Prelude.{List, ℕ, Float}
use Rattle.rules.specs.Parts.{plan_of, problem}
use Rattle.rules.specs.Invariant.{ProblemFits, Fits}
use Rattle.state.specs.Packed.{Sized, state_in}
use Rattle.state.specs.declared.Tally.{Tally}

-- what a step asks (step_refactor:Lent, Ready), but that a step may be left: a run may begin where the last one ended, with
-- its budget spent
pub record Running (n : ℕ) (lowers uppers : List Float) (starts cols : List ℕ) (coeffs : List Float) (ops kept : List ℕ)
    (N : List ℕ) (D : List Float) (F : List ℕ) (G : List Float) (t : Tally) : Type 0 where
  pub rows : ℕ
  pub entries : ℕ
  pub budget : ℕ
  pub tolerance : Float
  pub costs : List Float
  pub rhs : List Float
  pub sized : Sized N D
  pub problem_fits : ProblemFits
      (problem (plan_of n rows entries budget tolerance costs lowers uppers starts cols coeffs ops rhs) kept)
  pub state_fits : Fits
      (problem (plan_of n rows entries budget tolerance costs lowers uppers starts cols coeffs ops rhs) kept) (state_in N D F G t)
