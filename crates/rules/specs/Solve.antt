-- The whole: from lent arrays to the answer and what is lent afterwards. Assumes nothing.
use Rattle.std.specs.Prelude.{Bool, true, false, ◌||◌, List, [], ◌∷◌, eqb, Float}
use Rattle.doubles.specs.Lists.{over}
use Rattle.rules.specs.Plan.{Plan, Problem, Memory, State, problem_of, m_of, bit}
use Rattle.rules.specs.Refusals.{passes1, passes2, first_bad_row, first_bad_in, first_crossed, first_false}
use Rattle.rules.specs.Start.{start_state, passes6, passes7, dual_feasible}
use Rattle.rules.specs.Basis.{eta_used}
use Rattle.rules.specs.Step.{Ended, run_of, both_runs}
use Rattle.rules.specs.FinalCheck.{values_of, final_check}
use Rattle.rules.specs.Answers.{number_of}
use Rattle.rules.specs.declared.Stop.TheVariants.{Finished, Spent as Stop-as-Spent, Unbounded as Stop-as-Unbounded, NotFinite as Stop-as-NotFinite, Singular as Stop-as-Singular, Infeasible as Stop-as-Infeasible}
use Rattle.rules.specs.declared.Checked.{Checked}
use Rattle.rules.specs.declared.Checked.TheVariants.{Passed, Value, Row}
use Rattle.rules.specs.declared.Answer.{Answer}
use Rattle.rules.specs.declared.Answer.TheVariants.{Optimal, BadSize, BadNumber, BadEntry, CrossedBounds, FalseEmptyRow, StartNotFinite, SlackOutside, Unbounded, Spent, NotFinite, Singular, Infeasible, ValueRejected, RowRejected}

pub record Solved : Type 0 where
  pub answer : Answer
  pub memory : Memory

abbrev pub solved : Answer → Memory → Solved
solved a m = record { answer = a; memory = m }

-- ---- the end of a run

-- "after the final check". 02: "Every caller and answer 24 carries the excess"
unfoldable pub checked_answer : State → Checked → Answer
checked_answer s (Passed x) = Optimal s.objective s.steps x
checked_answer s (Value v x) = ValueRejected s.objective s.steps v x
checked_answer s (Row r x) = RowRejected s.objective s.steps r x

unfoldable pub answer_of : Problem → Ended → Answer
answer_of P e =
    let s = e.state in
    elim e.why [
      | Finished ↦ checked_answer s (final_check P (values_of P s.ws))
      | Stop-as-Spent ↦ Spent s.objective s.steps
      | Stop-as-Unbounded ↦ Unbounded s.objective s.steps
      | Stop-as-NotFinite ↦ NotFinite s.objective s.steps
      | Stop-as-Singular ↦ Singular s.objective s.steps
      | Stop-as-Infeasible r ↦ Infeasible s.objective s.steps r
    ]

-- "Status 0 is Optimal and writes values, slacks last. 20 to 24 leave the values array alone", and so do 25 and 26
unfoldable pub values_after : Problem → State → Answer → List Float → List Float
values_after P s a l = elim (eqb (number_of a) 0) [ true ↦ over (values_of P s.ws) l | false ↦ l ]

-- "the workspace then holds the state after the last whole step"; "cells past what is written never change"
unfoldable pub memory_after : Problem → State → Answer → Memory → Memory
memory_after P s a m =
    record {
      values = values_after P s a m.values;
      kept = over P.kept m.kept;
      ws = s.ws;
      counts = over (m_of P ∷ s.eta_count ∷ eta_used s ∷ s.steps ∷ number_of a ∷ bit s.factor.there ∷ s.factor.times ∷ [])
          m.counts;
      objective = over (s.objective ∷ []) m.objective;
      all_factor_numbers = s.factor.numbers;
      all_factor_coeffs = s.factor.coeffs;
    }

unfoldable pub close : Problem → Memory → Ended → Solved
close P m e = let a = answer_of P e in solved a (memory_after P e.state a m)

-- 02, Ask 8: "dual steps for starts that are dual feasible", then primal ones; else primal ones alone
unfoldable pub end_of : Problem → Memory → Ended
end_of P m =
    let s = start_state P m in
    elim (dual_feasible P.plan) [ true ↦ both_runs P P.plan.budget s | false ↦ run_of P P.plan.budget s ]

-- ---- "The lowest number that applies is given"; "1 to 7 are refusals: all lent memory stays"
abbrev pub or_else : {A : Type 0} → Bool → A → A → A
or_else b a r = elim b [ true ↦ r | false ↦ a ]

abbrev pub or_refuse : Bool → Answer → Memory → Solved → Solved
or_refuse b a m r = or_else b (solved a m) r

-- 1 to 5, which are about the plan and what is lent, of every call that reads a plan: what is said, or how it goes on
abbrev pub or_refused : {A : Type 0} → Plan → Memory → (Answer → A) → A → A
or_refused p m says r =
    or_else (passes1 p m) (says BadSize)
    (or_else (passes2 p) (says BadNumber)
    (or_else (eqb (first_bad_row p) p.rows) (says (BadEntry (first_bad_row p) (first_bad_in p (first_bad_row p))))
    (or_else (eqb (first_crossed p) p.columns) (says (CrossedBounds (first_crossed p)))
    (or_else (eqb (first_false p) p.rows) (says (FalseEmptyRow (first_false p)))
    r))))

unfoldable pub solve_plan : Plan → Memory → Solved
solve_plan p m =
    let P = problem_of p in
    or_refused p m (λ a. solved a m)
    (or_refuse (passes6 P) StartNotFinite m
    (or_refuse (passes7 P || dual_feasible p) SlackOutside m
    (close P m (end_of P m))))
