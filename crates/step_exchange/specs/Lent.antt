-- What deciding an exchange asks. Assumes nothing.
use Rattle.std.specs.Prelude.{◌≡◌, Bool, List, ℕ, Float}
use Rattle.sparse.specs.Scattered.{sv}
use Rattle.rules.specs.Plan.{Problem, State}
use Rattle.rules.specs.Basis.{inv_row}
use Rattle.state.specs.declared.Tally.{Tally}
use Rattle.step_refactor.specs.Lent.{Ready}

-- what an exchange asks, of a function that is lent no bounds
pub record Solving (n : ℕ) (starts cols : List ℕ) (coeffs : List Float) (kept : List ℕ) (N : List ℕ) (D : List Float)
    (F : List ℕ) (G : List Float) (t : Tally) : Type 0 where
  pub lowers : List Float
  pub uppers : List Float
  pub ops : List ℕ
  pub ready : Ready n lowers uppers starts cols coeffs ops kept N D F G t

-- the row solve's result
pub record Inverse (P : Problem) (s : State) (row : ℕ) (values : List Float) (list : List ℕ) (count : ℕ) : Type 0 where
  pub marks : List Bool
  pub is : sv values marks list count ≡ inv_row P s row
