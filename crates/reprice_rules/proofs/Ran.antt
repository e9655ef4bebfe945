-- What the call tells and leaves where it isn't refused, and the numbers that it never gives. Assumes nothing.
use mathlib.Core.Path.{◌≡◌, refl, sym, ap, ◌∙◌, subst}
use mathlib.Core.List.{List}
use mathlib.Core.Logic.{⊎_elim}
use Prim.Native.Nat.{ℕ, ◌+◌, ◌≤◌}
use native.Mathlib.Omega.{arith}
use lib.ListN.{length, take, drop}
use lib.Seq.{take_at}
use lib.Ieee.{Float}
use borrow.Author.Tests.{eq-eqb}
use Rattle.doubles.specs.Lists.{over}
use Rattle.doubles.proofs.Tests.{true_by}
use Rattle.doubles.proofs.Loops.{length_tab}
use Rattle.rules.specs.Plan.{Plan, Memory, Problem, State, problem_of, n_of, m_of}
use Rattle.rules.specs.Choose.{choose}
use Rattle.rules.specs.FinalCheck.{values_of, final_check}
use Rattle.rules.specs.Step.{Ended, ended}
use Rattle.rules.specs.Kinds.{Kind, dual, primal}
use Rattle.rules.specs.Steps.{Steps}
use Rattle.rules.specs.Answers.{as_row, number_of}
use Rattle.rules.specs.Solve.{checked_answer, answer_of, values_after, memory_after, close}
use Rattle.rules.specs.Conditions.{Ends, Checks, AllSound}
use Rattle.rules.specs.Invariant.{ProblemFits, Sound}
use Rattle.rules.specs.declared.Stop.{Stop}
use Rattle.rules.specs.declared.Stop.TheVariants.{Finished, Spent, Unbounded, NotFinite, Singular, Infeasible}
use Rattle.std.specs.Prelude.{None}
use Rattle.rules.specs.declared.Checked.{Checked}
use Rattle.rules.specs.declared.Checked.TheVariants.{Passed, Value, Row}
use Rattle.rules.proofs.Refusals.{Passes, none_refused}
use Rattle.rules.proofs.Lengths.{tolerance_fits}
use Rattle.rules.proofs.FinalCheck.{final_check_holds, accepted_exactly}
use Rattle.rules.proofs.Start.{passed_fits}
use Rattle.rules.proofs.Steps.{steps_sound, no_dual}
use Rattle.fix_rules.specs.Kept.{kept_state}
use Rattle.fix_rules.specs.Calls.{Called, as_fix_row}
use Rattle.fix_rules.specs.Meaning.{GoesOn, call_number, CallRan, CallPasses, Held}
use Rattle.fix_rules.proofs.Unkept.{unkept_exactly}
use Rattle.fix_rules.proofs.Honest.{kept_honest}
use Rattle.fix_rules.proofs.Held.{steps_held}
use Rattle.fix_rules.proofs.Meaning.{told, checked_passed}
use Rattle.reprice_rules.specs.Reprice.{priced_by, repriced, reprice_end, own_factorings}
use Rattle.reprice_rules.specs.Calls.{close_repriced, reprice_plan}
use Rattle.reprice_rules.specs.Meaning.{as_solve, not_kept, Accepted, Settles, as_it_is, anew, Priced, OwnStop, not_finite, singular, RepriceEnds, not_made, made}
use Rattle.reprice_rules.proofs.Refusals.{closed_number, RepriceCase, refused, accepted, reprice_cases, reprice_closes}
use Rattle.reprice_rules.proofs.Own.{reprice_ends}
use Rattle.reprice_rules.proofs.Sound.{priced_sound}

-- ---- 0 comes by the final check alone
passed : (P : Problem) (w : Stop) (s : State) → number_of (answer_of P (ended w s)) ≡ 0
    → final_check P (values_of P s.ws) ≡ Passed (as_row (answer_of P (ended w s))).excess
unfolding answer_of as_row
passed P Finished s q = checked_passed s (final_check P (values_of P s.ws)) q
passed P Spent s q = absurd (omega arith)
passed P Unbounded s q = absurd (omega arith)
passed P NotFinite s q = absurd (omega arith)
passed P Singular s q = absurd (omega arith)
passed P (Infeasible r) s q = absurd (omega arith)

-- ---- 26 comes by dual steps alone, and a call takes none
checked_not_26 : (s : State) (x : Checked) → ¬ (number_of (checked_answer s x) ≡ 26)
unfolding checked_answer as_row
checked_not_26 s (Passed x) q = omega arith
checked_not_26 s (Value v x) q = omega arith
checked_not_26 s (Row r x) q = omega arith

primal_not_26 : (P : Problem) (w : Stop) (s : State) → Ends P primal s w → ¬ (number_of (answer_of P (ended w s)) ≡ 26)
unfolding Ends answer_of as_row
primal_not_26 P Finished s h q = checked_not_26 s (final_check P (values_of P s.ws)) q
primal_not_26 P Spent s h q = omega arith
primal_not_26 P Unbounded s h q = omega arith
primal_not_26 P NotFinite s h q = omega arith
primal_not_26 P Singular s h q = omega arith
primal_not_26 P (Infeasible r) s h q = h

module _ (P : Problem) (t : State) (e : Ended) where
  by_kind : (k : Kind) (n : ℕ) → Steps P t primal k n e.state → Ends P k e.state e.why
      → ¬ (number_of (answer_of P e) ≡ 26)
  by_kind dual n x h q = no_dual P t x
  by_kind primal n x h q = primal_not_26 P e.why e.state h q

  goes_not_26 : GoesOn P t primal e → ¬ (number_of (answer_of P e) ≡ 26)
  goes_not_26 g = by_kind g.kind g.count g.by_steps g.ends

own_not_26 : (P : Problem) {w : Stop} (s : State) → OwnStop w → ¬ (number_of (answer_of P (ended w s)) ≡ 26)
unfolding answer_of as_row
own_not_26 P s not_finite q = omega arith
own_not_26 P s singular q = omega arith

ends_not_26 : (P : Problem) (s : State) {e : Ended} → RepriceEnds P s e → ¬ (number_of (answer_of P e) ≡ 26)
ends_not_26 P s (not_made w x) = own_not_26 P s x
ends_not_26 P s (made {e} t x g) = goes_not_26 P t e g

-- ---- on 0 no column enters
checked_none : (P : Problem) (w : Stop) (s : State) → Ends P primal s w → number_of (answer_of P (ended w s)) ≡ 0
    → choose P s.ws ≡ None
unfolding Ends answer_of as_row
checked_none P Finished s h q = h
checked_none P Spent s h q = absurd (omega arith)
checked_none P Unbounded s h q = absurd (omega arith)
checked_none P NotFinite s h q = absurd (omega arith)
checked_none P Singular s h q = absurd (omega arith)
checked_none P (Infeasible r) s h q = absurd h

module _ (P : Problem) (t : State) (e : Ended) where
  none_by_kind : (k : Kind) (n : ℕ) → Steps P t primal k n e.state → Ends P k e.state e.why
      → number_of (answer_of P e) ≡ 0 → choose P e.state.ws ≡ None
  none_by_kind dual n x h q = absurd (no_dual P t x)
  none_by_kind primal n x h q = checked_none P e.why e.state h q

own_not_0 : (P : Problem) {w : Stop} (s : State) → OwnStop w → ¬ (number_of (answer_of P (ended w s)) ≡ 0)
unfolding answer_of as_row
own_not_0 P s not_finite q = omega arith
own_not_0 P s singular q = omega arith

ends_none : (P : Problem) (s : State) {e : Ended} → RepriceEnds P s e → number_of (answer_of P e) ≡ 0
    → choose P e.state.ws ≡ None
ends_none P s (not_made w x) q = absurd (own_not_0 P s x q)
ends_none P s (made {e} t x g) q = none_by_kind P t e g.kind g.count g.by_steps g.ends q

module _ (p : Plan) (m : Memory) where
  abbrev P : Problem
  P = problem_of p

  abbrev s : State
  s = kept_state P m

  none_yet : s.steps ≡ 0
  unfolding kept_state
  none_yet = refl

  ends : RepriceEnds P s (reprice_end P s)
  ends = reprice_ends P s none_yet

  case_not_26 : {r : Called} → RepriceCase p m r → ¬ (call_number r ≡ 26)
  unfolding close_repriced close as_fix_row
  case_not_26 (refused k l says) q =
      ⊎_elim (λ x. omega (arith, says.number, q, x.1)) (λ x. omega (arith, says.number, q, x)) l
  case_not_26 (accepted n) q = ends_not_26 P s ends q

  -- 26 is never given
  pub never_26 : ¬ (call_number (reprice_plan p m) ≡ 26)
  never_26 = case_not_26 (reprice_cases p m)

  case_not_7 : {r : Called} → RepriceCase p m r → ¬ (call_number r ≡ 7)
  case_not_7 (refused k l says) q =
      ⊎_elim (λ x. omega (arith, says.number, q, x.1)) (λ x. omega (arith, says.number, q, x)) l
  case_not_7 (accepted n) q =
      ⊎_elim (λ z. omega (arith, z, q)) (λ z. omega (arith, z.0, q))
      (closed_number P m (own_factorings s (repriced P s)) (reprice_end P s))

  -- nor is 7
  pub never_7 : ¬ (call_number (reprice_plan p m) ≡ 7)
  never_7 = case_not_7 (reprice_cases p m)

  -- ---- within the budget, refused or not
  ends_within : {e : Ended} → RepriceEnds P s e → e.state.steps ≤ p.budget
  ends_within (not_made w x) = omega (arith, none_yet)
  ends_within (made t x g) = g.within

  case_within : {r : Called} → RepriceCase p m r → (as_fix_row r.answer).steps ≤ p.budget
  unfolding close_repriced close as_fix_row
  case_within (refused k l says) = omega (arith, says.steps)
  case_within (accepted n) =
      let e : Ended = reprice_end P s in
      omega (arith, (told P e.why e.state).0, ends_within ends)

  pub steps_within : (as_fix_row (reprice_plan p m).answer).steps ≤ p.budget
  steps_within = case_within (reprice_cases p m)

  -- ---- where it isn't refused
  module _ (n : Accepted p m) where
    tests : Passes p m
    tests = none_refused p m (λ j h g. n j (omega arith) (as_solve j (omega arith) g))

    fits : ProblemFits P
    fits = passed_fits p m tests.passes_1 tests.passes_2 tests.passes_3

    kept : Sound P s
    kept =
        let o = true_by (λ f. n 41 (omega arith) (not_kept ((unkept_exactly p m).0 f))) in
        (kept_honest p m tests.passes_1 tests.passes_2 tests.passes_3 o).sound

    ends_sound : {e : Ended} → RepriceEnds P s e → Sound P e.state
    ends_sound (not_made w x) = kept
    ends_sound (made t x g) = steps_sound P t fits (priced_sound fits kept x) g.by_steps

    -- one end settles the answer and every lent cell (`reprice_closes`); its state is sound, and its steps are within
    -- the budget
    pub reprice_ran : CallRan p m (reprice_plan p m) (reprice_end (problem_of p) (kept_state (problem_of p) m))
    unfolding close_repriced close memory_after as_fix_row
    reprice_ran =
        let e : Ended = reprice_end P s in
        let t = told P e.why e.state in
        rw (reprice_closes p m n)
        (record {
          answer_is = refl;
          sound = ends_sound ends;
          within = ends_within ends;
          steps_told = t.0;
          objective_told = t.1;
          lent = refl;
          lent_numbers = refl;
          lent_coeffs = refl;
        })

    abbrev closed : Called
    closed = close_repriced P m (own_factorings s (repriced P s)) (reprice_end P s)

    closed_passes : call_number closed ≡ 0 → CallPasses p closed
    unfolding close_repriced close memory_after as_fix_row values_after values_of
    closed_passes q =
        let e : Ended = reprice_end P s in
        let xs : List Float = values_of P e.state.ws in
        let put : values_after P e.state (answer_of P e) m.values ≡ over xs m.values =
        rw (eq-eqb (number_of (answer_of P e)) 0 q, values_after) refl in
        let w : take (n_of P + m_of P) (values_after P e.state (answer_of P e) m.values) ≡ xs =
        ap (take (n_of P + m_of P)) put ∙ take_at xs (drop (length xs) m.values) (n_of P + m_of P) (length_tab _ _ _) in
        let tolerance = tolerance_fits p tests.passes_2 in
        let checks =
        (final_check_holds P xs tolerance.0 (Passed (as_row (answer_of P e)).excess)).0 (passed P e.why e.state q) in
        record {
          values_of_holds = w;
          checked = subst (λ (l : List Float). Checks P l (Passed (as_row (answer_of P e)).excess)) (sym w) checks;
          all_sound = subst (AllSound P) (sym w) ((accepted_exactly P xs tolerance.0 tolerance.1).0 (_, checks));
        }

    -- on 0 the values are written, and they have passed the final check
    pub reprice_writes : call_number (reprice_plan p m) ≡ 0 → CallPasses p (reprice_plan p m)
    reprice_writes =
        subst (λ (r : Called). call_number r ≡ 0 → CallPasses p r) (sym (reprice_closes p m n)) closed_passes

  case_none : {r : Called} → RepriceCase p m r → call_number r ≡ 0 → choose P r.memory.ws ≡ None
  unfolding close_repriced close memory_after as_fix_row
  case_none (refused k l says) q =
      absurd (⊎_elim (λ x. omega (arith, says.number, q, x.0)) (λ x. omega (arith, says.number, q, x)) l)
  case_none (accepted n) q = ends_none P s ends q

  -- on 0 no column enters, with the prices of the plan's costs
  pub reprice_none : call_number (reprice_plan p m) ≡ 0 → choose (problem_of p) (reprice_plan p m).memory.ws ≡ None
  reprice_none = case_none (reprice_cases p m)

  -- ---- a fixed column keeps its place, its mark and its value, whether the call is refused or not
  settled_held : {u : State} (j c : ℕ) (x : Float) → Settles P s u → Held P s.ws j c x → Held P u.ws j c x
  settled_held j c x (as_it_is z) h = h
  settled_held j c x (anew f z q) h =
      record { column = h.column; inside = h.inside; stands = h.stands; mark = h.mark; valued = h.valued }

  priced_held : {t : State} (j c : ℕ) (x : Float) → Priced P s t → Held P s.ws j c x → Held P t.ws j c x
  unfolding priced_by
  priced_held j c x y h =
      let g = settled_held j c x y.settles h in
      rw y.after
      (record { column = g.column; inside = g.inside; stands = g.stands; mark = g.mark; valued = g.valued })

  ends_held : Accepted p m → {e : Ended} (j c : ℕ) (x : Float) → RepriceEnds P s e → Held P s.ws j c x
      → Held P e.state.ws j c x
  ends_held n j c x (not_made w y) h = h
  ends_held n j c x (made t y g) h =
      steps_held P (fits n) t (priced_sound (fits n) (kept n) y).fits j c x g.by_steps (priced_held j c x y h)

  case_held : {r : Called} (j c : ℕ) (x : Float) → RepriceCase p m r → Held P m.ws j c x → Held P r.memory.ws j c x
  unfolding close_repriced close memory_after kept_state
  case_held j c x (refused k l says) h = subst (λ (y : Memory). Held P y.ws j c x) (sym says.memory) h
  case_held j c x (accepted n) h = ends_held n j c x ends h

  pub reprice_held : (j c : ℕ) (x : Float) → Held (problem_of p) m.ws j c x
      → Held (problem_of p) (reprice_plan p m).memory.ws j c x
  reprice_held j c x = case_held j c x (reprice_cases p m)
