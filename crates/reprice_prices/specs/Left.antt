-- What the own part, or its end, leaves in the lent arrays: the state to go on from, or why there is none and what was
-- lent as it was. Assumes nothing.
use Rattle.std.specs.Prelude.{List, ℕ, Float, Result, Ok, Err}
use Rattle.rules.specs.Plan.{State}
use Rattle.state.specs.Packed.{packed, state_in}
use Rattle.step_refactor.specs.Left.{Left, on, off}
use Rattle.reprice_rules.specs.Reprice.{Ready, ready, halts}
use Rattle.state.specs.declared.Tally.{Tally}
use Rattle.rules.specs.declared.Stop.{Stop}

-- the definition's result, from the state s
abbrev pub after_own : State → Ready → Left
after_own s (ready t) = on t
after_own s (halts w) = off w s.ws s.factor.numbers s.factor.coeffs

-- the code's, with the arrays as it leaves them
abbrev pub own_left : Result Tally Stop → List ℕ → List Float → List ℕ → List Float → Left
own_left (Ok t) N D F G = on (state_in N D F G t)
own_left (Err w) N D F G = off w (packed N D) F G
