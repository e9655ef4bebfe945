-- The table's lines, 0 and 20 to 26: each is given exactly when its words hold of the state where the run ends, and there
-- is one such state. Assumes nothing.
use mathlib.Core.Path.{◌≡◌, refl, sym, ap, ◌∙◌, subst}
use mathlib.Core.Bool.{Bool, true, false}
use mathlib.Core.Logic.{◌↔◌, ◌⊎◌, ⊎_elim}
use Prim.Native.Nat.{ℕ, zero, suc, ◌+◌, ◌-◌, ◌<◌, ◌≤◌}
use native.Mathlib.Omega.{arith}
use mathlib.Core.List.{List}
use lib.ListN.{length, take, drop}
use lib.Seq.{take_at}
use lib.Ieee.{Float, le}
use borrow.Author.Tests.{eq-eqb, ne_eqb}
use Rattle.doubles.specs.Num.{f0, f1, eps, size}
use Rattle.doubles.specs.Loop.{until}
use Rattle.doubles.specs.Lists.{over}
use Rattle.doubles.proofs.Loops.{length_tab}
use Rattle.rules.specs.Plan.{Plan, Memory, Problem, State, problem_of, n_of, m_of}
use Rattle.rules.specs.Start.{dual_feasible, start_state}
use Rattle.rules.specs.Choose.{choose}
use Rattle.rules.specs.DualRow.{choose_row}
use Rattle.rules.specs.Step.{Outcome, moved, stopped, step, dual_step, Ended, ended, next, at_budget, run_of, dual_next, dual_at_budget, dual_run_of, then_primal, both_runs}
use Rattle.rules.specs.Kinds.{Kind, dual, primal, first_kind, kind_after, last_kind_by, last_kind}
use Rattle.rules.specs.FinalCheck.{values_of, final_check}
use Rattle.rules.specs.Answers.{Row as Told, as_row, number_of}
use Rattle.rules.specs.Solve.{Solved, checked_answer, answer_of, values_after, memory_after, close, end_of, solve_plan}
use Rattle.rules.specs.Conditions.{NoneBelow, Checks, AllSound, StopsWith, DualStopsBy, Halts, DualHalts, reached, Passes, Ends, Line, optimal, unbounded, spent, singular, infeasible, not_finite, value_rejected, row_rejected}
use Rattle.rules.specs.Steps.{Steps, none, one_dual, turns, one_more, Reached, RunsTo}
use Rattle.rules.proofs.Refusals.{Case, refused, accepted, cases, none_refused}
use Rattle.rules.proofs.Lengths.{tolerance_fits}
use Rattle.rules.proofs.EnteringColumn.{entering_priced, enters_exactly}
use Rattle.rules.proofs.FinalCheck.{final_only, final_check_holds, accepted_exactly}
use Rattle.rules.proofs.Stops.{step_stops}
use Rattle.rules.proofs.DualStops.{dual_stops_exactly}
use Rattle.rules.proofs.Steps.{step_counts, dual_counts, steps_count, end_reached}
use Rattle.rules.specs.declared.Entering.{Entering}
use Rattle.std.specs.Prelude.{Option, Some, None}
use Rattle.rules.specs.declared.LeavingVar.{LeavingVar}
use Rattle.rules.specs.declared.Stop.{Stop}
use Rattle.rules.specs.declared.Stop.TheVariants.{Finished, Spent as Stop-as-Spent, Unbounded as Stop-as-Unbounded, NotFinite as Stop-as-NotFinite, Singular as Stop-as-Singular, Infeasible as Stop-as-Infeasible}
use Rattle.rules.specs.declared.Checked.{Checked}
use Rattle.rules.specs.declared.Checked.TheVariants.{Passed, Value, Row}
use Rattle.rules.specs.declared.Answer.{Answer}
use Rattle.rules.specs.declared.Answer.TheVariants.{Optimal, BadSize, BadNumber, BadEntry, CrossedBounds, FalseEmptyRow, StartNotFinite, SlackOutside, Unbounded, Spent, NotFinite, Singular, Infeasible, ValueRejected, RowRejected}

-- ---- the run, from s with k steps left, among steps of one kind

module _ (P : Problem) where
  abbrev pub runs : ℕ → State → Ended
  runs k s = until (next P) (at_budget P) k s

  abbrev pub dual_runs : ℕ → State → Ended
  dual_runs k s = until (dual_next P) (dual_at_budget P) k s

  abbrev goes_from : Kind → ℕ → State → Ended
  goes_from primal k s = runs k s
  goes_from dual k s = then_primal P P.plan.budget (dual_runs k s)

  -- with no column that enters it ends there, and with no row that leaves the dual steps do
  none_enters : (k : ℕ) (s : State) → choose P s.ws ≡ None → runs k s ≡ ended Finished s
  unfolding until next at_budget
  none_enters zero s q = rw (q, at_budget) refl
  none_enters (suc k) s q = rw (q, until, next) refl

  pub none_leaves : (k : ℕ) (s : State) → choose_row P s.ws ≡ None → dual_runs k s ≡ ended Finished s
  unfolding until dual_next dual_at_budget
  none_leaves zero s q = rw (q, dual_at_budget) refl
  none_leaves (suc k) s q = rw (q, until, dual_next) refl

  -- ---- where it ends, the words of its end hold
  halted : (s : State) (e : Entering) → choose P s.ws ≡ Some e → s.steps < P.plan.budget → (w : Stop) → step P s e ≡ stopped w
      → Ends P primal s w
  unfolding Ends StopsWith
  halted s e q h Finished r = absurd ((step_stops P s e Finished).0 r)
  halted s e q h Stop-as-Spent r = absurd ((step_stops P s e Stop-as-Spent).0 r)
  halted s e q h Stop-as-Unbounded r = (e, q, h, (step_stops P s e Stop-as-Unbounded).0 r)
  halted s e q h Stop-as-Singular r = (e, q, h, (step_stops P s e Stop-as-Singular).0 r)
  halted s e q h Stop-as-NotFinite r = (e, q, h, (step_stops P s e Stop-as-NotFinite).0 r)
  halted s e q h (Stop-as-Infeasible k) r = absurd ((step_stops P s e (Stop-as-Infeasible k)).0 r)

  abbrev EndsSo : Kind → Ended → Type 0
  EndsSo c e = Ends P c e.state e.why

  run_ends : (k : ℕ) (s : State) → s.steps + k ≡ P.plan.budget → EndsSo primal (runs k s)
  unfolding until next at_budget Ends
  run_ends zero s h = go (choose P s.ws) refl
    where
      go : (x : Option Entering) → choose P s.ws ≡ x → EndsSo primal (runs 0 s)
      go None q = rw (q, at_budget) q
      go (Some e) q = rw (q, at_budget) (e, q, omega arith)
  run_ends (suc k) s h = go (λ t l. run_ends k t l) (choose P s.ws) refl
    where
      turn : ((t : State) → t.steps + k ≡ P.plan.budget → EndsSo primal (runs k t)) → (e : Entering) → choose P s.ws ≡ Some e
          → (o : Outcome) → step P s e ≡ o → EndsSo primal (runs (suc k) s)
      turn rest e q (moved i t) r = rw (q, r, until, next) (rest t (omega (arith, step_counts P s e i t r)))
      turn rest e q (stopped w) r = rw (q, r, until, next) (halted s e q (omega arith) w r)

      go : ((t : State) → t.steps + k ≡ P.plan.budget → EndsSo primal (runs k t)) → (x : Option Entering) → choose P s.ws ≡ x
          → EndsSo primal (runs (suc k) s)
      go rest None q = rw (q, until, next) q
      go rest (Some e) q = turn rest e q (step P s e) refl

  -- the dual steps turn, or stay where they are
  data DualEnded : Ended → Type 0 where
    turned : (t : State) → choose_row P t.ws ≡ None → t.steps ≤ P.plan.budget → DualEnded (ended Finished t)
    stayed : (w : Stop) (t : State) → Ends P dual t w → DualEnded (ended w t)

  dual_halted : (s : State) (l : LeavingVar) → choose_row P s.ws ≡ Some l → s.steps < P.plan.budget → (w : Stop) → dual_step P s l ≡ stopped w
      → Ends P dual s w
  unfolding Ends DualStopsBy
  dual_halted s l q h Finished r = absurd ((dual_stops_exactly P s l Finished).0 r)
  dual_halted s l q h Stop-as-Spent r = absurd ((dual_stops_exactly P s l Stop-as-Spent).0 r)
  dual_halted s l q h Stop-as-Unbounded r = absurd ((dual_stops_exactly P s l Stop-as-Unbounded).0 r)
  dual_halted s l q h Stop-as-Singular r = (l, q, h, (dual_stops_exactly P s l Stop-as-Singular).0 r)
  dual_halted s l q h Stop-as-NotFinite r = (l, q, h, (dual_stops_exactly P s l Stop-as-NotFinite).0 r)
  dual_halted s l q h (Stop-as-Infeasible k) r = (l, q, h, (dual_stops_exactly P s l (Stop-as-Infeasible k)).0 r)

  dual_ends : (k : ℕ) (s : State) → s.steps + k ≡ P.plan.budget → DualEnded (dual_runs k s)
  unfolding until dual_next dual_at_budget Ends
  dual_ends zero s h = go (choose_row P s.ws) refl
    where
      go : (x : Option LeavingVar) → choose_row P s.ws ≡ x → DualEnded (dual_runs 0 s)
      go None q = rw (q, dual_at_budget) (turned s q (omega arith))
      go (Some l) q = rw (q, dual_at_budget) (stayed Stop-as-Spent s (l, q, omega arith))
  dual_ends (suc k) s h = go (λ t l. dual_ends k t l) (choose_row P s.ws) refl
    where
      turn : ((t : State) → t.steps + k ≡ P.plan.budget → DualEnded (dual_runs k t)) → (l : LeavingVar) → choose_row P s.ws ≡ Some l
          → (o : Outcome) → dual_step P s l ≡ o → DualEnded (dual_runs (suc k) s)
      turn rest l q (moved i t) r = rw (q, r, until, dual_next) (rest t (omega (arith, dual_counts P s l i t r)))
      turn rest l q (stopped w) r = rw (q, r, until, dual_next) (stayed w s (dual_halted s l q (omega arith) w r))

      go : ((t : State) → t.steps + k ≡ P.plan.budget → DualEnded (dual_runs k t)) → (x : Option LeavingVar) → choose_row P s.ws ≡ x
          → DualEnded (dual_runs (suc k) s)
      go rest None q = rw (q, until, dual_next) (turned s q (omega arith))
      go rest (Some l) q = turn rest l q (dual_step P s l) refl

  -- and then the primal ones
  both_end : {e : Ended} → DualEnded e → EndsSo (kind_after e.why) (then_primal P P.plan.budget e)
  unfolding run_of Ends
  both_end (turned t q l) = run_ends (P.plan.budget - t.steps) t (omega arith)
  both_end (stayed Finished t h) = absurd h
  both_end (stayed Stop-as-Spent t h) = h
  both_end (stayed Stop-as-Unbounded t h) = absurd h
  both_end (stayed Stop-as-Singular t h) = h
  both_end (stayed Stop-as-NotFinite t h) = h
  both_end (stayed (Stop-as-Infeasible k) t h) = h

  -- ---- k steps on, it goes on from there
  goes_on : {s : State} {b : Kind} {t : State} {c : Kind} {k : ℕ} → Steps P s b c k t → (n j : ℕ) → n ≡ k + j → s.steps + n ≡ P.plan.budget
      → goes_from b n s ≡ goes_from c j t
  unfolding until next dual_next run_of
  goes_on {s} {b} none n j h l = let z : n ≡ j = omega arith in ap (λ (i : ℕ). goes_from b i s) z
  goes_on (one_dual {k} {t} {u} x i r c q) n j h l =
      let turn : dual_runs (suc j) t ≡ dual_runs j u = rw (c, q, until, dual_next) refl in
      goes_on r n (suc j) (omega arith) l ∙ ap (then_primal P P.plan.budget) turn
  goes_on {s} (turns {k} {t} r c) n j h l =
      let left : P.plan.budget - t.steps ≡ j = omega (arith, steps_count P s r) in
      goes_on r n j h l ∙ ap (then_primal P P.plan.budget) (none_leaves j t c) ∙ ap (λ (i : ℕ). runs i t) left
  goes_on (one_more {k} {t} {u} e i r c q) n j h l =
      let turn : runs (suc j) t ≡ runs j u = rw (c, q, until, next) refl in
      goes_on r n (suc j) (omega arith) l ∙ turn

  -- ---- and where the words of an end hold, it ends
  halts : (k : ℕ) (s : State) (w : Stop) → s.steps + k ≡ P.plan.budget → Halts P s w → runs k s ≡ ended w s
  unfolding until next
  halts zero s w l h = absurd (omega (arith, h.2))
  halts (suc k) s w l h = rw (h.1, (step_stops P s h.0 w).1 h.3, until, next) refl

  dual_halts : (k : ℕ) (s : State) (w : Stop) → s.steps + k ≡ P.plan.budget → DualHalts P s w → dual_runs k s ≡ ended w s
  unfolding until dual_next
  dual_halts zero s w l h = absurd (omega (arith, h.2))
  dual_halts (suc k) s w l h = rw (h.1, (dual_stops_exactly P s h.0 w).1 h.3, until, dual_next) refl

  ends_there : (k : ℕ) (s : State) (w : Stop) → s.steps + k ≡ P.plan.budget → Ends P primal s w → runs k s ≡ ended w s
  unfolding until at_budget Ends
  ends_there k s Finished l h = none_enters k s h
  ends_there zero s Stop-as-Spent l h = rw (h.1, at_budget) refl
  ends_there (suc k) s Stop-as-Spent l h = absurd (omega (arith, h.2))
  ends_there k s Stop-as-Unbounded l h = halts k s Stop-as-Unbounded l h
  ends_there k s Stop-as-Singular l h = halts k s Stop-as-Singular l h
  ends_there k s Stop-as-NotFinite l h = halts k s Stop-as-NotFinite l h
  ends_there k s (Stop-as-Infeasible r) l h = absurd h

  dual_there : (k : ℕ) (s : State) (w : Stop) → s.steps + k ≡ P.plan.budget → Ends P dual s w → goes_from dual k s ≡ ended w s
  unfolding until dual_at_budget Ends
  dual_there k s Finished l h = absurd h
  dual_there zero s Stop-as-Spent l h = rw (h.1, dual_at_budget) refl
  dual_there (suc k) s Stop-as-Spent l h = absurd (omega (arith, h.2))
  dual_there k s Stop-as-Unbounded l h = absurd h
  dual_there k s Stop-as-Singular l h = ap (then_primal P P.plan.budget) (dual_halts k s Stop-as-Singular l h)
  dual_there k s Stop-as-NotFinite l h = ap (then_primal P P.plan.budget) (dual_halts k s Stop-as-NotFinite l h)
  dual_there k s (Stop-as-Infeasible r) l h = ap (then_primal P P.plan.budget) (dual_halts k s (Stop-as-Infeasible r) l h)

  there : (c : Kind) (k : ℕ) (s : State) (w : Stop) → s.steps + k ≡ P.plan.budget → Ends P c s w → goes_from c k s ≡ ended w s
  there primal = ends_there
  there dual = dual_there

-- ---- the end of a run
module _ (P : Problem) (m : Memory) where
  abbrev start : State
  start = start_state P m

  -- 02: "dual steps for starts that are dual feasible"
  end_from : end_of P m ≡ goes_from P (first_kind P.plan) P.plan.budget start
  unfolding end_of both_runs run_of dual_run_of first_kind start_state
  end_from = go (dual_feasible P.plan) refl
    where
      whole : P.plan.budget - 0 ≡ P.plan.budget
      whole = omega arith

      go : (b : Bool) → dual_feasible P.plan ≡ b → end_of P m ≡ goes_from P (first_kind P.plan) P.plan.budget start
      go true q = rw (q, end_of, first_kind) (ap (λ (i : ℕ). goes_from P dual i start) whole)
      go false q = rw (q, end_of, first_kind) refl

  end_so : EndsSo P (last_kind P m) (end_of P m)
  unfolding end_of both_runs run_of dual_run_of first_kind last_kind_by start_state
  end_so = go (dual_feasible P.plan) refl
    where
      go : (b : Bool) → dual_feasible P.plan ≡ b → EndsSo P (last_kind P m) (end_of P m)
      go true q = rw (q, end_of, first_kind) (both_end P (dual_ends P (P.plan.budget - start.steps) start (omega arith)))
      go false q = rw (q, end_of, first_kind) (run_ends P P.plan.budget start (omega arith))

  end_only : (c : Kind) (w : Stop) (t : State) → Reached P start (first_kind P.plan) c t P.plan.budget → Ends P c t w
      → end_of P m ≡ ended w t
  unfolding start_state
  end_only c w t r h =
      let left : ℕ = P.plan.budget - t.steps in
      let sum : P.plan.budget ≡ t.steps + left = omega (arith, r.within) in
      end_from ∙ goes_on P r.by_steps P.plan.budget left sum (omega arith) ∙ there P c left t w (omega arith) h

  abbrev EndsAs : Ended → Type 0
  EndsAs e = (c : Kind) × Reached P start (first_kind P.plan) c e.state P.plan.budget × EndsSo P c e

  -- a run ends with w in t exactly when the rules' steps lead there within the budget and the words of that end hold
  -- there, of the kind of step that it stands in: no other state is so
  pub end_exact : (w : Stop) (t : State)
      → (end_of P m ≡ ended w t)
      ↔ ((c : Kind) × Reached P (start_state P m) (first_kind P.plan) c t P.plan.budget × Ends P c t w)
  end_exact w t = (λ q. subst EndsAs q (last_kind P m, end_reached P m, end_so), λ h. end_only h.0 w t h.1 h.2)

-- ---- the answers
module _ (P : Problem) (c : Kind) (s : State) where
  module _ (low : le f0 P.plan.tolerance ≡ true) where
    checked_line : Ends P c s Finished → (x : Checked) → final_check P (values_of P s.ws) ≡ x → Line P c s (as_row (checked_answer s x))
    unfolding checked_answer as_row
    checked_line h (Passed x) q = optimal x h ((final_check_holds P (values_of P s.ws) low (Passed x)).0 q)
    checked_line h (Value v x) q = value_rejected v x h ((final_check_holds P (values_of P s.ws) low (Value v x)).0 q)
    checked_line h (Row r x) q = row_rejected r x h ((final_check_holds P (values_of P s.ws) low (Row r x)).0 q)

    line : (w : Stop) → Ends P c s w → Line P c s (as_row (answer_of P (ended w s)))
    unfolding answer_of as_row
    line Finished h = checked_line h (final_check P (values_of P s.ws)) refl
    line Stop-as-Spent h = spent h
    line Stop-as-Unbounded h = unbounded h
    line Stop-as-Singular h = singular h
    line Stop-as-NotFinite h = not_finite h
    line (Stop-as-Infeasible r) h = infeasible r h

  checked_so : (x : Checked) → Checks P (values_of P s.ws) x
      → as_row (answer_of P (ended Finished s)) ≡ as_row (checked_answer s x)
  unfolding answer_of
  checked_so x g = ap (λ y. as_row (checked_answer s y)) (final_only P (values_of P s.ws) x g)

  -- a line that holds of s is what an end there is told by
  line_only : {t : Told} → Line P c s t → (w : Stop) × Ends P c s w × (as_row (answer_of P (ended w s)) ≡ t)
  unfolding answer_of checked_answer as_row
  line_only (optimal x h g) = (Finished, h, checked_so (Passed x) g)
  line_only (value_rejected v x h g) = (Finished, h, checked_so (Value v x) g)
  line_only (row_rejected r x h g) = (Finished, h, checked_so (Row r x) g)
  line_only (spent h) = (Stop-as-Spent, h, refl)
  line_only (unbounded h) = (Stop-as-Unbounded, h, refl)
  line_only (singular h) = (Stop-as-Singular, h, refl)
  line_only (not_finite h) = (Stop-as-NotFinite, h, refl)
  line_only (infeasible r h) = (Stop-as-Infeasible r, h, refl)

module _ (p : Plan) (m : Memory) where
  tolerance : NoneBelow 8 p m → (le f0 p.tolerance ≡ true) × (le p.tolerance f1 ≡ true)
  tolerance n = tolerance_fits p (none_refused p m (λ j h. n j (omega arith))).passes_2

  pub end_line : NoneBelow 8 p m → Line (problem_of p) (last_kind (problem_of p) m) (reached p m) (as_row (answer_of (problem_of p) (end_of (problem_of p) m)))
  end_line n =
      let P = problem_of p in
      let e = end_of P m in
      line P (last_kind P m) e.state (tolerance n).0 e.why (end_so P m)

  module _ (t : Told) (ran : (t.number ≡ 0) ⊎ (20 ≤ t.number)) where
    exact : {r : Solved} → Case p m r
        → (as_row r.answer ≡ t) ↔ (NoneBelow 8 p m × ((c : Kind) × ((s : State) × RunsTo p m c s × Line (problem_of p) c s t)))
    unfolding close
    exact (refused k l h g n says) =
        (λ q. let e : t.number ≡ k = ap (λ (x : Told). x.number) (sym q) ∙ says.number in absurd (⊎_elim (λ z. omega arith) (λ z. omega arith) ran), λ s. absurd (s.0 k h g))
    exact (accepted n) = (
      λ q.
          let c = last_kind (problem_of p) m in
          (n, (c, (reached p m, end_reached (problem_of p) m, subst (Line (problem_of p) c (reached p m)) q (end_line n)))),
      λ h.
          let P = problem_of p in
          let s = h.1.1.0 in
          let x = line_only P h.1.0 s h.1.1.2 in
          ap (λ (e : Ended). as_row (answer_of P e)) (end_only P m h.1.0 x.0 s h.1.1.1 x.1) ∙ x.2,
    )

    -- the table's lines, 0 and 20 to 26: an answer with its number, objective, steps and place is given exactly when no
    -- refusal is called for and the rules' steps, dual and then primal ones, lead within the budget to a state that its
    -- line holds of
    pub answer_exact : (as_row (solve_plan p m).answer ≡ t)
        ↔ (NoneBelow 8 p m × ((c : Kind) × ((s : State) × RunsTo p m c s × Line (problem_of p) c s t)))
    answer_exact = exact (cases p m)

-- ---- 20. 02: "a column at neither bound enters only if its price's size is at least EPS. This amends the step rule and
-- 20"
entered : {P : Problem} {c : Kind} {s : State} {t : Told} → Line P c s t → t.number ≡ 20 → (e : Entering) × (choose P s.ws ≡ Some e)
unfolding Ends
entered (optimal x h g) q = absurd (omega arith)
entered (value_rejected v x h g) q = absurd (omega arith)
entered (row_rejected r x h g) q = absurd (omega arith)
entered (spent h) q = absurd (omega arith)
entered {c = dual} (unbounded h) q = absurd h
entered {c = primal} (unbounded h) q = (h.0, h.1)
entered (singular h) q = absurd (omega arith)
entered (not_finite h) q = absurd (omega arith)
entered (infeasible r h) q = absurd (omega arith)

module _ (p : Plan) (m : Memory) where
  abbrev ByPrice : Type 0
  ByPrice = (e : Entering) × (choose (problem_of p) (reached p m).ws ≡ Some e) × (le eps (size e.price) ≡ true)

  by_price : {r : Solved} → Case p m r → number_of r.answer ≡ 20 → ByPrice
  unfolding close
  by_price (refused k l h g n says) q = absurd (omega (arith, says.number))
  by_price (accepted n) q =
      let P = problem_of p in
      let w = (reached p m).ws in
      let x = entered (end_line p m n) q in
      (x.0, x.1, entering_priced P w x.0 ((enters_exactly P w x.0).0 x.1))

  -- it comes only by a column whose price's size is at least EPS
  pub unbounded_priced : number_of (solve_plan p m).answer ≡ 20 → (e : Entering) × (choose (problem_of p) (reached p m).ws ≡ Some e) × (le eps (size e.price) ≡ true)
  unbounded_priced = by_price (cases p m)

-- ---- what the lent memory holds afterwards
passed : {P : Problem} {c : Kind} {s : State} {t : Told} → Line P c s t → t.number ≡ 0 → Checks P (values_of P s.ws) (Passed t.excess)
passed (optimal x h g) q = g
passed (value_rejected v x h g) q = absurd (omega arith)
passed (row_rejected r x h g) q = absurd (omega arith)
passed (spent h) q = absurd (omega arith)
passed (unbounded h) q = absurd (omega arith)
passed (singular h) q = absurd (omega arith)
passed (not_finite h) q = absurd (omega arith)
passed (infeasible r h) q = absurd (omega arith)

length_values : (P : Problem) (s : State) → length (values_of P s.ws) ≡ n_of P + m_of P
unfolding values_of
length_values P s = length_tab _ _ _

module _ (P : Problem) (s : State) (a : Answer) (l : List Float) where
  values_put : number_of a ≡ 0 → values_after P s a l ≡ over (values_of P s.ws) l
  unfolding values_after
  values_put q = rw (eq-eqb (number_of a) 0 q, values_after) refl

  values_kept : ¬ (number_of a ≡ 0) → values_after P s a l ≡ l
  unfolding values_after
  values_kept n = rw (ne_eqb (number_of a) 0 n, values_after) refl

module _ (p : Plan) (m : Memory) where
  writes : {r : Solved} → Case p m r → number_of r.answer ≡ 0 → Passes p m r
  unfolding close memory_after
  writes (refused k l h g n says) q = absurd (omega (arith, says.number))
  writes (accepted n) q =
      let P = problem_of p in
      let e = end_of P m in
      let xs = values_of P e.state.ws in
      let w : take (n_of P + m_of P) (values_after P e.state (answer_of P e) m.values) ≡ xs =
      ap (take (n_of P + m_of P)) (values_put P e.state (answer_of P e) m.values q) ∙ take_at xs (drop (length xs) m.values) (n_of P + m_of P) (length_values P e.state) in
      let c = passed (end_line p m n) q in
      let t = tolerance p m n in
      record {
        values_of_holds = w;
        checked = subst (λ (l : List Float). Checks P l (Passed (as_row (answer_of P e)).excess)) (sym w) c;
        sound = subst (AllSound P) (sym w) ((accepted_exactly P xs t.0 t.1).0 (_, c));
      }

  -- 01: "Status 0 is Optimal and writes values, slacks last": the values of the state that was reached, and they have passed the final check
  pub optimal_writes : number_of (solve_plan p m).answer ≡ 0 → Passes p m (solve_plan p m)
  optimal_writes = writes (cases p m)

  left_alone : {r : Solved} → Case p m r → ¬ (number_of r.answer ≡ 0) → r.memory.values ≡ m.values
  unfolding close memory_after
  left_alone (refused k l h g n says) z = ap (λ (x : Memory). x.values) says.memory
  left_alone (accepted n) z = values_kept (problem_of p) _ _ m.values z

  -- 01: "20 to 24 leave the values array alone"
  pub values_left : ¬ (number_of (solve_plan p m).answer ≡ 0) → (solve_plan p m).memory.values ≡ m.values
  values_left = left_alone (cases p m)

-- 02: "22 is no longer given"
pub never_22 : (a : Answer) → ¬ (number_of a ≡ 22)
unfolding as_row
never_22 (Optimal o k x) q = absurd (omega arith)
never_22 BadSize q = absurd (omega arith)
never_22 BadNumber q = absurd (omega arith)
never_22 (BadEntry r p) q = absurd (omega arith)
never_22 (CrossedBounds c) q = absurd (omega arith)
never_22 (FalseEmptyRow r) q = absurd (omega arith)
never_22 StartNotFinite q = absurd (omega arith)
never_22 SlackOutside q = absurd (omega arith)
never_22 (Unbounded o k) q = absurd (omega arith)
never_22 (Spent o k) q = absurd (omega arith)
never_22 (NotFinite o k) q = absurd (omega arith)
never_22 (Singular o k) q = absurd (omega arith)
never_22 (Infeasible o k r) q = absurd (omega arith)
never_22 (ValueRejected o k v x) q = absurd (omega arith)
never_22 (RowRejected o k r x) q = absurd (omega arith)
