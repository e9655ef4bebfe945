-- The part of a problem that the run of a repricing reads, where it ends, and what it asks. Assumes nothing.
use Rattle.std.specs.Prelude.{◌≡◌, List, [], ℕ, ◌+◌, Float}
use Rattle.doubles.specs.Num.{f0}
use Rattle.rules.specs.Plan.{Problem, State}
use Rattle.rules.specs.Parts.{plan_of, problem, factored_of, state_with}
use Rattle.rules.specs.Step.{Ended, ended}
use Rattle.rules.specs.Invariant.{ProblemFits, Sound}
use Rattle.state.specs.Packed.{Sized, state_in}
use Rattle.state.specs.declared.Tally.{Tally}
use Rattle.reprice_rules.specs.Reprice.{repriced, reprice_end, own_factorings}

-- what a step reads (step_refactor:Left, stepped), the costs and the budget
abbrev pub pricing_of : ℕ → ℕ → List Float → List Float → List Float → List ℕ → List ℕ → List Float → List ℕ → List ℕ → Problem
pricing_of n budget costs lowers uppers starts cols coeffs ops kept =
    problem (plan_of n 0 0 budget f0 costs lowers uppers starts cols coeffs ops []) kept

-- an end with k factorings more
abbrev pub counting : ℕ → Ended → Ended
counting k e =
    let s = e.state in
    let F = s.factor in
    ended e.why
    (state_with s.ws s.eta_count s.objective s.steps (factored_of F.there (F.times + k) F.numbers F.coeffs))

-- where the call ends, "one factoring more" counted
unfoldable pub counted_end : Problem → State → Ended
counted_end P s = counting (own_factorings s (repriced P s)) (reprice_end P s)

-- the plan with its costs fits, the state that was taken up is sound, and no step is counted yet
pub record Repricing (n budget : ℕ) (costs lowers uppers : List Float) (starts cols : List ℕ) (coeffs : List Float)
    (ops kept : List ℕ) (N : List ℕ) (D : List Float) (F : List ℕ) (G : List Float) (t : Tally) : Type 0 where
  pub rows : ℕ
  pub entries : ℕ
  pub tolerance : Float
  pub rhs : List Float
  pub sized : Sized N D
  pub problem_fits : ProblemFits
      (problem (plan_of n rows entries budget tolerance costs lowers uppers starts cols coeffs ops rhs) kept)
  pub state_sound : Sound
      (problem (plan_of n rows entries budget tolerance costs lowers uppers starts cols coeffs ops rhs) kept) (state_in N D F G t)
  pub no_steps : t.steps ≡ 0
