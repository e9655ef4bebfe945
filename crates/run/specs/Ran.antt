-- How a run ends: its answer, with the arrays as it leaves them. Assumes nothing.
use Rattle.std.specs.Prelude.{List, ℕ, Float}
use Rattle.rules.specs.Step.{Ended, ended}
use Rattle.state.specs.Packed.{state_in}
use Rattle.run.specs.declared.Ran.{Ran}

abbrev pub ran_by : Ran → List ℕ → List Float → List ℕ → List Float → Ended
ran_by r N D F G = ended r.why (state_in N D F G r.at)
