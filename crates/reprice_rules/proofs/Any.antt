-- A solve from any start: which way it takes, that 7 is never given and 26 only where a solve gave it, and what it
-- leaves. Assumes nothing.
use mathlib.Core.Path.{◌≡◌, refl, sym, ap, ◌∙◌, subst}
use mathlib.Core.Bool.{Bool, true, false, ◌&&◌}
use mathlib.Core.Logic.{◌⊎◌, inl, inr, ⊎_elim}
use Prim.Native.Nat.{ℕ, ◌≤◌}
use native.Mathlib.Omega.{arith}
use lib.Dec.{eqb}
use borrow.Author.Tests.{eqb-true, eqb-false}
use Rattle.rules.specs.Plan.{Plan, Memory, Workspace, Problem, State, kept_rows, problem_of}
use Rattle.rules.specs.Refusals.{sizes_fit, plan_long, memory_long, starts_rise, passes1}
use Rattle.rules.specs.Choose.{choose}
use Rattle.rules.specs.FinalCheck.{values_of}
use Rattle.rules.specs.Kinds.{Kind, dual, primal}
use Rattle.rules.specs.Answers.{Row, as_row, number_of}
use Rattle.rules.specs.Solve.{Solved, close, end_of, solve_plan}
use Rattle.rules.specs.Conditions.{Ends, Line, optimal, unbounded, spent, singular, infeasible, not_finite, value_rejected, row_rejected}
use Rattle.std.specs.Prelude.{None}
use Rattle.rules.proofs.Refusals.{Case, refused, accepted, cases, refusal_says}
use Rattle.rules.proofs.Answers.{end_line, answer_exact, optimal_writes}
use Rattle.rules.proofs.Steps.{end_reached}
use Rattle.rules.proofs.Ran.{solved_closes, solved_ran}
use Rattle.state_maps.specs.Maps.{maps_fine}
use Rattle.fix_rules.specs.Kept.{passes41}
use Rattle.fix_rules.proofs.Honest.{and}
use Rattle.fix_rules.proofs.Never41.{solved_passes}
use Rattle.fix_rules.proofs.Meaning.{told}
use Rattle.doubles.proofs.Loops.{both_true}
use Rattle.reprice_rules.specs.declared.AnyAnswer.TheVariants.{Direct, Halted, Repriced}
use Rattle.reprice_rules.specs.Calls.{reprice_plan}
use Rattle.reprice_rules.specs.Any.{AnyCalled, any_called, costless, then_reprice, any_plan, as_any_row, steps_of_costless, own_steps}
use Rattle.reprice_rules.specs.Meaning.{Accepted, AnyWays, by_solve, by_costless_holds, by_reprice_holds, AnyOptimal}
use Rattle.reprice_rules.proofs.Costless.{Five, seven_passes, costless_number}
use Rattle.reprice_rules.proofs.Lent.{solved_passes_1}
use Rattle.reprice_rules.proofs.Refusals.{reprice_let_in}
use Rattle.reprice_rules.proofs.Ran.{never_7, never_26, steps_within, reprice_writes, reprice_none}

module _ (p : Plan) (m : Memory) where
  abbrev first : Solved
  first = solve_plan p m

  abbrev second : Solved
  second = solve_plan (costless p) m

  behind : number_of first.answer ≡ 7 → AnyWays p m (then_reprice p second)
  unfolding then_reprice
  behind z = go (eqb (number_of second.answer) 0) refl
    where
      go : (b : Bool) → eqb (number_of second.answer) 0 ≡ b
          → AnyWays p m (elim b [
            | true ↦ any_called (Repriced (as_row second.answer).steps (reprice_plan p second.memory).answer) (reprice_plan p second.memory).memory
            | false ↦ any_called (Halted second.answer) second.memory
          ])
      go true q = by_reprice_holds z (eqb-true _ _ q)
      go false q = by_costless_holds z (eqb-false _ _ q)

  -- the answer tells the way, and its calls settle every lent cell
  pub any_ways : AnyWays p m (any_plan p m)
  unfolding any_plan
  any_ways = go (eqb (number_of first.answer) 7) refl
    where
      go : (b : Bool) → eqb (number_of first.answer) 7 ≡ b
          → AnyWays p m (elim b [
            | true ↦ then_reprice p (solve_plan (costless p) first.memory)
            | false ↦ any_called (Direct first.answer) first.memory
          ])
      go true q =
          let z = eqb-true _ _ q in
          let same = (refusal_says p m 7 (omega arith) (omega arith) z).memory in
          subst (λ (x : Memory). AnyWays p m (then_reprice p (solve_plan (costless p) x))) (sym same) (behind z)
      go false q = by_solve (eqb-false _ _ q)

  abbrev number : AnyCalled → ℕ
  number r = (as_any_row r.answer).number

  way_not_7 : {r : AnyCalled} → AnyWays p m r → ¬ (number r ≡ 7)
  unfolding as_any_row
  way_not_7 (by_solve n) q = n q
  way_not_7 (by_costless_holds z n) q =
      ⊎_elim (λ x. omega (arith, x, q)) (λ x. omega (arith, x.0, q)) (costless_number p m (seven_passes p m z))
  way_not_7 (by_reprice_holds z o) q = never_7 p second.memory q

  -- "7 is never given"
  pub any_never_7 : ¬ ((as_any_row (any_plan p m).answer).number ≡ 7)
  any_never_7 = way_not_7 any_ways

  way_26 : {r : AnyCalled} → AnyWays p m r → number r ≡ 26
      → (number_of first.answer ≡ 26) ⊎ ((number_of first.answer ≡ 7) × (number_of second.answer ≡ 26))
  unfolding as_any_row
  way_26 (by_solve n) q = inl q
  way_26 (by_costless_holds z n) q = inr (z, q)
  way_26 (by_reprice_holds z o) q = absurd (never_26 p second.memory q)

  -- "26 only where `solve` or the run with costs 0 gave it"
  pub any_26 : (as_any_row (any_plan p m).answer).number ≡ 26
      → (number_of (solve_plan p m).answer ≡ 26)
      ⊎ ((number_of (solve_plan p m).answer ≡ 7) × (number_of (solve_plan (costless p) m).answer ≡ 26))
  any_26 = way_26 any_ways

  -- ---- behind 7 and an Optimal run with costs 0 the call with the plan's own costs isn't refused
  same_test : (x : Memory) → passes41 (costless p) x ≡ passes41 p x
  unfolding passes41 maps_fine kept_rows
  same_test x = refl

  -- 1's test of the plan, in the memory that the run left
  one_again : Five p m → (x : Memory) → passes1 (costless p) x ≡ true → passes1 p x ≡ true
  unfolding passes1 sizes_fit memory_long starts_rise
  one_again t x o =
      let a = both_true (sizes_fit (costless p) && plan_long (costless p) && memory_long (costless p) x) (starts_rise (costless p)) o in
      let b = both_true (sizes_fit (costless p) && plan_long (costless p)) (memory_long (costless p) x) a.0 in
      let c = both_true (sizes_fit p && plan_long p && memory_long p m) (starts_rise p) t.one in
      let d = both_true (sizes_fit p && plan_long p) (memory_long p m) c.0 in
      and (and d.0 b.1) c.1

  pub any_accepted : number_of (solve_plan p m).answer ≡ 7 → number_of (solve_plan (costless p) m).answer ≡ 0
      → Accepted p (solve_plan (costless p) m).memory
  any_accepted z o =
      let t = seven_passes p m z in
      reprice_let_in p second.memory
      (record {
        one = one_again t second.memory (solved_passes_1 (costless p) m o);
        two = t.two;
        three = t.three;
        four = t.four;
        five = t.five;
      })
      (sym (same_test second.memory) ∙ solved_passes (costless p) m o)

  -- ---- "the steps of both runs in the answer, each within the budget"
  solve_within : {p : Plan} {r : Solved} → Case p m r → (as_row r.answer).steps ≤ p.budget
  unfolding close
  solve_within (refused k l h g n says) = omega (arith, says.steps)
  solve_within {p} (accepted n) =
      let P = problem_of p in
      let e = end_of P m in
      omega (arith, (told P e.why e.state).0, (end_reached P m).within)

  way_steps : {r : AnyCalled} → AnyWays p m r → (steps_of_costless r.answer ≤ p.budget) × (own_steps r.answer ≤ p.budget)
  unfolding steps_of_costless own_steps
  way_steps (by_solve n) = (omega arith, solve_within (cases p m))
  way_steps (by_costless_holds z n) = (solve_within (cases (costless p) m), omega arith)
  way_steps (by_reprice_holds z o) = (solve_within (cases (costless p) m), steps_within p second.memory)

  pub any_steps : (steps_of_costless (any_plan p m).answer ≤ p.budget) × (own_steps (any_plan p m).answer ≤ p.budget)
  any_steps = way_steps any_ways

  -- ---- "Optimal means what it means for `solve`"
  line_none : {P : Problem} {c : Kind} {s : State} {t : Row} → Line P c s t → t.number ≡ 0 → choose P s.ws ≡ None
  unfolding Ends
  line_none {c = dual} (optimal x h g) q = absurd h
  line_none {c = primal} (optimal x h g) q = h
  line_none (value_rejected v x h g) q = absurd (omega arith)
  line_none (row_rejected r x h g) q = absurd (omega arith)
  line_none (spent h) q = absurd (omega arith)
  line_none (unbounded h) q = absurd (omega arith)
  line_none (singular h) q = absurd (omega arith)
  line_none (not_finite h) q = absurd (omega arith)
  line_none (infeasible r h) q = absurd (omega arith)

  solve_optimal : number_of first.answer ≡ 0 → AnyOptimal p (any_called (Direct first.answer) first.memory)
  unfolding as_any_row close
  solve_optimal q =
      let P = problem_of p in
      let x = optimal_writes p m q in
      let ran = solved_ran p m (inl q) in
      let none = ((answer_exact p m (as_row first.answer) (inl q)).0 refl).0 in
      let whole = ap (λ (r : Solved). number_of r.answer) (sym (solved_closes p m none)) in
      record {
        values_of_holds = x.values_of_holds ∙ ap (λ (w : Workspace). values_of P w) (sym ran.lent);
        checked = x.checked;
        all_sound = x.sound;
        none_enters =
            subst (λ (w : Workspace). choose P w ≡ None) (sym ran.lent) (line_none (end_line p m none) (whole ∙ q));
      }

  way_optimal : {r : AnyCalled} → AnyWays p m r → number r ≡ 0 → AnyOptimal p r
  unfolding as_any_row
  way_optimal (by_solve n) q = solve_optimal q
  way_optimal (by_costless_holds z n) q = absurd (n q)
  way_optimal (by_reprice_holds z o) q =
      let x = reprice_writes p second.memory (any_accepted z o) q in
      record {
        values_of_holds = x.values_of_holds;
        checked = x.checked;
        all_sound = x.all_sound;
        none_enters = reprice_none p second.memory q;
      }

  pub any_optimal : (as_any_row (any_plan p m).answer).number ≡ 0 → AnyOptimal p (any_plan p m)
  any_optimal = way_optimal any_ways
