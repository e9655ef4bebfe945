-- From the start's numbers to the end of the run, which has dual steps first where the start is dual feasible. Assumes nothing.
use Rattle.std.specs.Prelude.{◌≡◌, Bool, true, false, List, [], ℕ, ◌-◌, ◌≤◌, Float}
use Rattle.doubles.specs.Num.{f0}
use Rattle.doubles.specs.Limits.{max_columns, max_rows, max_budget}
use Rattle.rules.specs.Plan.{Problem, Workspace, State, n_of, m_of}
use Rattle.rules.specs.Parts.{plan_of, problem, factored_of, state_with}
use Rattle.rules.specs.Start.{dual_feasible}
use Rattle.rules.specs.Step.{Ended, run_of, both_runs}
use Rattle.start_values.specs.Lent.{Columns}
use Rattle.state.specs.Packed.{packed, state_in, Sized}
use Rattle.state.specs.declared.Tally.{Tally}
use Rattle.start.specs.Lent.{Scratch}
use Rattle.start.specs.Reckoned.{Numbers, written}
use Rattle.run.specs.Lent.{Running}

-- what is lent of a problem: its right sides stand in the numbers by now
abbrev pub launched_of : ℕ → List Float → List Float → List Float → List ℕ → List ℕ → List Float → List ℕ → List ℕ → Problem
launched_of n costs lowers uppers starts cols coeffs ops kept = problem (plan_of n 0 0 0 f0 costs lowers uppers starts cols coeffs ops []) kept

-- the first state, from the numbers in scratch: no factor, and F and G, its arrays, as they are lent
abbrev pub first_state : Problem → Numbers → Workspace → List ℕ → List Float → State
first_state P u w F G =
    state_with (written (n_of P) (m_of P) P.plan.costs P.plan.lowers P.plan.uppers u.vals u.slacks u.norms w)
    0 u.objective 0 (factored_of false 0 F G)

-- a run from s, with dual steps first or with primal ones alone
unfoldable pub gone_on : Problem → Bool → ℕ → State → Ended
gone_on P dual budget s = elim dual [ true ↦ both_runs P budget s | false ↦ run_of P (budget - s.steps) s ]

-- 02, Ask 8: "dual steps for starts that are dual feasible"
unfoldable pub launched : Problem → ℕ → State → Ended
launched P budget s = gone_on P (dual_feasible P.plan) budget s

-- the numbers and the arrays are there, and a run may go on from the first state
pub record Launches (P : Problem) (budget : ℕ) (u : Numbers) (N : List ℕ) (D : List Float) (F : List ℕ) (G : List Float)
    : Type 0 where
  pub columns_most : n_of P ≤ max_columns
  pub rows_most : m_of P ≤ max_rows
  pub columns : Columns (n_of P) P.plan.costs P.plan.lowers P.plan.uppers
  pub scratch : Scratch (n_of P) (m_of P) u.vals u.slacks u.norms
  pub sized : Sized N D
  pub ready : (M : List ℕ) (E : List Float) (t : Tally) → Sized M E
      → state_in M E F G t ≡ first_state P u (packed N D) F G
      → Running (n_of P) P.plan.lowers P.plan.uppers P.plan.starts P.plan.cols P.plan.coeffs P.plan.ops
      P.kept M E F G t
  pub budget_most : budget ≤ max_budget
