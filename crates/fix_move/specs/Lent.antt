-- What a fix of a non_basic column asks. Assumes nothing.
use Rattle.std.specs.Prelude.{List, ℕ, Float}
use Rattle.state.specs.declared.Tally.{Tally}
use Rattle.step_refactor.specs.Lent.{ReadyBy}

-- problem and state fit; bounds and comparisons aren't lent
pub record Moves (n : ℕ) (kept S R : List ℕ) (X : List Float) (N : List ℕ) (D : List Float) (F : List ℕ)
    (G : List Float) (t : Tally) : Type 0 where
  pub lowers : List Float
  pub uppers : List Float
  pub ops : List ℕ
  pub ready_by : ReadyBy n lowers uppers ops kept S R X N D F G t
