-- What an exchange asks. Assumes nothing.
use Rattle.std.specs.Prelude.{◌≡◌, Bool, List, ℕ, ◌<◌, length, Float}
use Rattle.doubles.specs.Limits.{max_budget}
use Rattle.sparse.specs.Scattered.{sv, sq_norm}
use Rattle.rules.specs.Parts.{plan_of, problem, rowed}
use Rattle.rules.specs.Invariant.{ProblemFits, Fits, Vector}
use Rattle.basis_columns.specs.Columns.{ByColumns}
use Rattle.state.specs.Packed.{Sized, state_in}
use Rattle.state.specs.declared.Tally.{Tally}

-- the problem, of which a step is lent the part that it reads, and the state fit: what is not lent is some plan's. N and D
-- are the state's arrays, F and G the factor's
pub record Ready (n : ℕ) (lowers uppers : List Float) (starts cols : List ℕ) (coeffs : List Float) (ops kept : List ℕ)
    (N : List ℕ) (D : List Float) (F : List ℕ) (G : List Float) (t : Tally) : Type 0 where
  pub rows : ℕ
  pub entries : ℕ
  pub budget : ℕ
  pub tolerance : Float
  pub costs : List Float
  pub rhs : List Float
  pub sized : Sized N D
  pub problem_fits : ProblemFits
      (problem (plan_of n rows entries budget tolerance costs lowers uppers starts cols coeffs ops rhs) kept)
  pub state_fits : Fits
      (problem (plan_of n rows entries budget tolerance costs lowers uppers starts cols coeffs ops rhs) kept) (state_in N D F G t)
  pub budget_left : t.steps < max_budget

-- the same, of a function that is lent the problem by columns
pub record ReadyBy (n : ℕ) (lowers uppers : List Float) (ops kept : List ℕ) (S R : List ℕ) (X : List Float) (N : List ℕ)
    (D : List Float) (F : List ℕ) (G : List Float) (t : Tally) : Type 0 where
  pub starts : List ℕ
  pub cols : List ℕ
  pub coeffs : List Float
  pub ready : Ready n lowers uppers starts cols coeffs ops kept N D F G t
  pub by_columns : ByColumns (rowed n starts cols coeffs kept) S R X
  pub starts_long : n < length S

-- the entering column, solved, is in order
pub record Solved (m : ℕ) (values : List Float) (list : List ℕ) (count : ℕ) : Type 0 where
  pub marks : List Bool
  pub vector : Vector m (sv values marks list count)

-- its sum of squares
pub record Squares (values : List Float) (list : List ℕ) (count : ℕ) (sq : Float) : Type 0 where
  pub sum : (m : List Bool) → sq ≡ sq_norm (sv values m list count)
