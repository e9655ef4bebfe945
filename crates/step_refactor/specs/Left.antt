-- What a step leaves in the lent arrays: the state after it, or why there is none and what was lent as it was. Assumes
-- nothing.
use Rattle.std.specs.Prelude.{List, [], ℕ, Float, Result, Ok, Err}
use Rattle.doubles.specs.Num.{f0}
use Rattle.rules.specs.Plan.{Problem, Workspace, State}
use Rattle.rules.specs.Parts.{plan_of, problem}
use Rattle.rules.specs.Step.{Outcome, moved, stopped}
use Rattle.rules.specs.declared.Stop.{Stop}
use Rattle.state.specs.Packed.{packed, state_in}
use Rattle.state.specs.declared.Tally.{Tally}

pub data Left : Type 0 where
  on : State → Left
  off : Stop → Workspace → List ℕ → List Float → Left

-- the definition's outcome, from the state s
unfoldable pub after : State → Outcome → Left
after s (moved i t) = on t
after s (stopped w) = off w s.ws s.factor.numbers s.factor.coeffs

abbrev pub after_by : (State → Outcome) → State → Left
after_by f s = after s (f s)

-- the code's answer, with the arrays as it leaves them
abbrev pub left_by : Result Tally Stop → List ℕ → List Float → List ℕ → List Float → Left
left_by (Ok t) N D F G = on (state_in N D F G t)
left_by (Err x) N D F G = off x (packed N D) F G

-- the part of a problem that a step reads
abbrev pub stepped : ℕ → List Float → List Float → List ℕ → List ℕ → List Float → List ℕ → List ℕ → Problem
stepped n lowers uppers starts cols coeffs ops kept =
    problem (plan_of n 0 0 0 f0 [] lowers uppers starts cols coeffs ops []) kept
