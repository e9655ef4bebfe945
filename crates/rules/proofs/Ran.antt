-- The answers 0 and 20 to 26: the state behind them, and what is lent afterwards. Assumes nothing.
use mathlib.Core.Path.{◌≡◌, refl, ap, ◌∙◌}
use mathlib.Core.Bool.{Bool, true, false}
use mathlib.Core.Logic.{◌⊎◌}
use Prim.Native.Nat.{◌+◌, ◌≤◌}
use native.Mathlib.Omega.{arith}
use lib.Dec.{eqb}
use lib.ListN.{drop}
use lib.Seq.{drop-append_seam}
use Rattle.rules.specs.Plan.{Plan, Memory, Problem, State, problem_of, n_of, m_of}
use Rattle.rules.specs.Start.{start_state}
use Rattle.rules.specs.FinalCheck.{values_of}
use Rattle.rules.specs.Step.{Ended}
use Rattle.rules.specs.Kinds.{Kind, last_kind}
use Rattle.rules.specs.Answers.{Row as Told, as_row, number_of}
use Rattle.rules.specs.Solve.{Solved, answer_of, values_after, memory_after, close, end_of, solve_plan}
use Rattle.rules.specs.Conditions.{NoneBelow, reached, Line, optimal, unbounded, spent, singular, infeasible, not_finite, value_rejected, row_rejected}
use Rattle.rules.specs.Invariant.{Past, Tails}
use Rattle.rules.specs.Steps.{LentTails, Ran}
use Rattle.rules.specs.declared.Answer.{Answer}
use Rattle.rules.proofs.Refusals.{Case, refused, accepted, cases, none_refused}
use Rattle.rules.proofs.Answers.{end_line, answer_exact}
use Rattle.rules.proofs.Start.{passed_fits, start_sound}
use Rattle.rules.proofs.Tails.{past_refl, past_over, start_tails}
use Rattle.rules.proofs.Steps.{steps_sound, steps_tails, end_reached, end_bounded}

-- what is written over the other arrays leaves their tails
module _ (P : Problem) (m : Memory) (e : Ended) where
  values_tail : (b : Bool) (a : Answer) → eqb (number_of a) 0 ≡ b → Past (n_of P + m_of P) (values_after P e.state a m.values) m.values
  unfolding values_after values_of
  values_tail true a q = rw (q, values_after) (past_over _)
  values_tail false a q = rw (q, values_after) past_refl

  close_tails : Tails P m e.state → LentTails P m (close P m e).memory e.state
  unfolding close memory_after
  close_tails g =
      record {
        workspace = g;
        values = values_tail (eqb (number_of (answer_of P e)) 0) (answer_of P e) refl;
        kept = record { same = drop-append_seam P.kept (drop (m_of P) m.kept) };
        counts = record { same = refl };
        objective = record { same = refl };
      }

-- a line of the table tells what its state has
tells : {P : Problem} {c : Kind} {s : State} {t : Told} → Line P c s t → (t.steps ≡ s.steps) × (t.objective ≡ s.objective)
tells (optimal x h g) = (refl, refl)
tells (unbounded h) = (refl, refl)
tells (spent h) = (refl, refl)
tells (singular h) = (refl, refl)
tells (not_finite h) = (refl, refl)
tells (infeasible r h) = (refl, refl)
tells (value_rejected v x h g) = (refl, refl)
tells (row_rejected r x h g) = (refl, refl)

module _ (p : Plan) (m : Memory) where
  closes : {r : Solved} → Case p m r → NoneBelow 8 p m → r ≡ close (problem_of p) m (end_of (problem_of p) m)
  closes (refused k l h g n says) none = absurd (none k h g)
  closes (accepted n) none = refl

  -- where no refusal is called for, the run's end settles the answer and every lent cell
  pub solved_closes : NoneBelow 8 p m → solve_plan p m ≡ close (problem_of p) m (end_of (problem_of p) m)
  solved_closes = closes (cases p m)

  -- 01: "Answers 0 and 20 to 24 carry the objective and step count of that state"; "the workspace then holds the state after the last whole step"
  pub solved_ran : (number_of (solve_plan p m).answer ≡ 0) ⊎ (20 ≤ number_of (solve_plan p m).answer)
      → Ran p m (solve_plan p m) (reached p m)
  unfolding close memory_after
  solved_ran h =
      let P : Problem = problem_of p in
      let given = (answer_exact p m (as_row (solve_plan p m).answer) h).0 refl in
      let whole : solve_plan p m ≡ close P m (end_of P m) = solved_closes given.0 in
      let told = tells (end_line p m given.0) in
      let pass = none_refused p m (λ j h. given.0 j (omega arith)) in
      let fits = passed_fits p m pass.passes_1 pass.passes_2 pass.passes_3 in
      let start = start_sound p m pass.passes_1 pass.passes_2 pass.passes_3 pass.passes_6 in
      let steps = (end_reached P m).by_steps in
      record {
        kind = last_kind P m;
        reached = end_reached P m;
        bounded = end_bounded P m fits start.fits;
        sound = steps_sound P (start_state P m) fits start steps;
        steps_told = ap (λ (r : Solved). (as_row r.answer).steps) whole ∙ told.0;
        objective_told = ap (λ (r : Solved). (as_row r.answer).objective) whole ∙ told.1;
        lent = ap (λ (r : Solved). r.memory.ws) whole;
        lent_numbers = ap (λ (r : Solved). r.memory.all_factor_numbers) whole;
        lent_coeffs = ap (λ (r : Solved). r.memory.all_factor_coeffs) whole;
        tails = rw whole (close_tails P m (end_of P m) (steps_tails P (start_state P m) fits m (start_tails P m) start.fits steps));
      }
