-- 02, Ask 9: what fix and unfix promise of the answer, the memory and the marks. Assumes nothing.
use mathlib.Core.Path.{◌≡◌, refl, sym, ap, ◌∙◌, subst}
use mathlib.Core.Bool.{true}
use mathlib.Core.List.{List}
use mathlib.Core.Logic.{◌⊎◌, inl, inr, ⊎_elim}
use Prim.Native.Nat.{ℕ, ◌+◌, ◌<◌, ◌≤◌}
use native.Mathlib.Omega.{arith}
use lib.Dec.{ltb}
use lib.ListN.{length, take, drop}
use lib.Seq.{take_at}
use lib.Ieee.{Float, nan}
use borrow.Author.Tests.{ltb-true, ltb-false, lt-ltb, eq-eqb, ne_eqb}
use Rattle.doubles.specs.Num.{finite}
use Rattle.doubles.specs.Lists.{◌!◌, ◌#◌, over}
use Rattle.doubles.proofs.Bools.{by_test}
use Rattle.doubles.proofs.Tests.{true_by}
use Rattle.doubles.proofs.Loops.{both_true, length_tab, get_d_table}
use Rattle.rules.specs.Plan.{Plan, Memory, Workspace, Problem, State, problem_of, n_of, m_of, var_state_of, flags_of}
use Rattle.rules.specs.Start.{start_vals, start_flags, start_workspace, start_state}
use Rattle.rules.specs.FinalCheck.{value_of, values_of, final_check}
use Rattle.rules.specs.Step.{Ended, ended}
use Rattle.rules.specs.Answers.{as_row, number_of}
use Rattle.rules.specs.Solve.{checked_answer, answer_of, values_after, memory_after, close, solve_plan}
use Rattle.rules.specs.Conditions.{Checks, AllSound, written}
use Rattle.rules.specs.Invariant.{ProblemFits, Fits, Maps, Sound}
use Rattle.rules.specs.declared.Stop.{Stop}
use Rattle.rules.specs.declared.Stop.TheVariants.{Finished, Spent, Unbounded, NotFinite, Singular, Infeasible}
use Rattle.rules.specs.declared.Checked.{Checked}
use Rattle.rules.specs.declared.Checked.TheVariants.{Passed, Value, Row}
use Rattle.rules.proofs.Refusals.{Passes, none_refused}
use Rattle.rules.proofs.Lengths.{tolerance_fits}
use Rattle.rules.proofs.FinalCheck.{final_check_holds, accepted_exactly}
use Rattle.rules.proofs.Lists.{over_at}
use Rattle.rules.proofs.Start.{passed_fits, start_sound}
use Rattle.rules.proofs.Answers.{answer_exact}
use Rattle.rules.proofs.Ran.{solved_ran}
use Rattle.rules.proofs.Steps.{steps_sound}
use Rattle.fix_rules.specs.declared.FixAnswer.TheVariants.{Told}
use Rattle.fix_rules.specs.Kept.{kept_state}
use Rattle.fix_rules.specs.Fix.{unmarked, fixed, unfixed}
use Rattle.fix_rules.specs.Calls.{Called, as_fix_row, close_call, passes43, fix_plan, unfix_plan}
use Rattle.fix_rules.proofs.Unkept.{unkept_exactly}
use Rattle.fix_rules.proofs.Calls.{unknown_exactly, outside_exactly}
use Rattle.fix_rules.proofs.Honest.{Honest, kept_honest, unmarked_honest}
use Rattle.fix_rules.specs.Sequence.{Call, fix, unfix, column_of, call_plan, call_end}
use Rattle.fix_rules.specs.Meaning.{as_solve, not_kept, unknown, outside, not_fixed, call_number, Accepted, Held, Free, Made, OwnStop, no_budget, not_finite, singular, infeasible, FixEnds, not_made, made, CallRan, CallPasses, OwnNumber, FixLeaves, as_before, holds}
use Rattle.fix_rules.proofs.Refusals.{call_closes, refused_or_not, ran_accepted}
use Rattle.fix_rules.proofs.Held.{bounds_free, steps_held, steps_free}
use Rattle.fix_rules.proofs.Own.{made_honest, made_held, made_others, made_free, flags_held, flags_free, fix_ends, unfix_ends, unmarked_free}

-- ---- what an accepted call may lean on
record Ready (p : Plan) (m : Memory) (j : ℕ) : Type 0 where
  fits : ProblemFits (problem_of p)
  honest : Honest (problem_of p) (kept_state (problem_of p) m)
  column : j < p.columns

module _ (p : Plan) (m : Memory) (c : Call) (n : Accepted p m c) where
  tests : Passes p m
  tests = none_refused p m (λ j h g. n j (omega arith) (as_solve j (omega arith) g))

  ready : Ready p m (column_of c)
  ready =
      let o = true_by (λ f. n 41 (omega arith) (not_kept ((unkept_exactly p m).0 f))) in
      record {
        fits = passed_fits p m tests.passes_1 tests.passes_2 tests.passes_3;
        honest = kept_honest p m tests.passes_1 tests.passes_2 tests.passes_3 o;
        column = ltb-true _ _ (true_by (λ f. n 42 (omega arith) (unknown ((unknown_exactly p (column_of c)).0 f))));
      }

value_finite : (p : Plan) (m : Memory) (j : ℕ) (value : Float) → Accepted p m (fix j value) → finite value ≡ true
unfolding passes43
value_finite p m j value n =
    (both_true (finite value) _ (true_by (λ f. n 43 (omega arith) (outside ((outside_exactly p j value).0 f))))).0

-- ---- where a call ends: sound, and within the budget
module _ (p : Plan) (m : Memory) where
  abbrev P : Problem
  P = problem_of p

  abbrev s : State
  s = kept_state P m

  none_yet : s.steps ≡ 0
  unfolding kept_state
  none_yet = refl

  same_places : s.ws ≡ m.ws
  unfolding kept_state
  same_places = refl

  record Ending (e : Ended) : Type 0 where
    sound : Sound P e.state
    within : e.state.steps ≤ p.budget

  fix_ending : (j : ℕ) (value : Float) → Accepted p m (fix j value) → {e : Ended} → FixEnds P s j value e → Ending e
  fix_ending j value n (not_made w o) =
      let r = ready p m (fix j value) n in
      record { sound = r.honest.sound; within = omega (arith, none_yet) }
  fix_ending j value n (made t x g) =
      let r = ready p m (fix j value) n in
      record {
        sound =
            steps_sound P t r.fits
            (made_honest P r.fits s r.honest j r.column value (value_finite p m j value n) x).sound
            g.by_steps;
        within = g.within;
      }

  ending : (c : Call) → Accepted p m c → Ending (call_end P s c)
  ending (fix j value) n =
      let r = ready p m (fix j value) n in
      fix_ending j value n (fix_ends P r.fits s r.honest none_yet j r.column value)
  ending (unfix j) n =
      let r = ready p m (unfix j) n in
      let g = unfix_ends P s none_yet j in
      let u : State = unmarked P s (s.ws.var_states # j) in
      record {
        sound = steps_sound P u r.fits (unmarked_honest P s r.honest _).sound g.by_steps;
        within = g.within;
      }

-- ---- what it tells
pub checked_told : (s : State) (x : Checked)
    → ((as_row (checked_answer s x)).steps ≡ s.steps) × ((as_row (checked_answer s x)).objective ≡ s.objective)
unfolding checked_answer as_row
checked_told s (Passed x) = (refl, refl)
checked_told s (Value v x) = (refl, refl)
checked_told s (Row r x) = (refl, refl)

pub told : (P : Problem) (w : Stop) (s : State)
    → ((as_row (answer_of P (ended w s))).steps ≡ s.steps) × ((as_row (answer_of P (ended w s))).objective ≡ s.objective)
unfolding answer_of as_row
told P Finished s = checked_told s (final_check P (values_of P s.ws))
told P Spent s = (refl, refl)
told P Unbounded s = (refl, refl)
told P NotFinite s = (refl, refl)
told P Singular s = (refl, refl)
told P (Infeasible r) s = (refl, refl)

-- 0 and 24 come by the final check alone
abbrev IsChecked : ℕ → Type 0
IsChecked k = (k ≡ 0) ⊎ (k ≡ 24)

checked_by_holds : (P : Problem) (w : Stop) (s : State) → IsChecked (number_of (answer_of P (ended w s)))
    → answer_of P (ended w s) ≡ checked_answer s (final_check P (values_of P s.ws))
unfolding answer_of as_row
checked_by_holds P Finished s q = refl
checked_by_holds P Spent s q = absurd (⊎_elim (λ z. omega arith) (λ z. omega arith) q)
checked_by_holds P Unbounded s q = absurd (⊎_elim (λ z. omega arith) (λ z. omega arith) q)
checked_by_holds P NotFinite s q = absurd (⊎_elim (λ z. omega arith) (λ z. omega arith) q)
checked_by_holds P Singular s q = absurd (⊎_elim (λ z. omega arith) (λ z. omega arith) q)
checked_by_holds P (Infeasible r) s q = absurd (⊎_elim (λ z. omega arith) (λ z. omega arith) q)

pub checked_passed : (s : State) (x : Checked) → number_of (checked_answer s x) ≡ 0
    → x ≡ Passed (as_row (checked_answer s x)).excess
unfolding checked_answer as_row
checked_passed s (Passed x) q = refl
checked_passed s (Value v x) q = absurd (omega arith)
checked_passed s (Row r x) q = absurd (omega arith)

passed : (P : Problem) (w : Stop) (s : State) → number_of (answer_of P (ended w s)) ≡ 0
    → final_check P (values_of P s.ws) ≡ Passed (as_row (answer_of P (ended w s))).excess
passed P w s q =
    let e = checked_by_holds P w s (inl q) in
    checked_passed s (final_check P (values_of P s.ws)) (ap number_of (sym e) ∙ q)
    ∙ ap (λ a. Passed (as_row a).excess) (sym e)

-- ---- what is lent afterwards
module _ (p : Plan) (m : Memory) (c : Call) (n : Accepted p m c) where
  abbrev e : Ended
  e = call_end (problem_of p) (kept_state (problem_of p) m) c

  -- "the memory holds the state after the last whole step, with the call's status and steps": one end settles the
  -- answer and every lent cell (`call_closes`), its state is sound, and its steps are within the budget
  pub call_ran : CallRan p m (call_plan p c m) (call_end (problem_of p) (kept_state (problem_of p) m) c)
  unfolding close_call close memory_after as_fix_row
  call_ran =
      let P : Problem = problem_of p in
      let x = ending p m c n in
      let t = told P e.why e.state in
      rw (call_closes p m c n)
      (record {
        answer_is = refl;
        sound = x.sound;
        within = x.within;
        steps_told = t.0;
        objective_told = t.1;
        lent = refl;
        lent_numbers = refl;
        lent_coeffs = refl;
      })

  -- the maps are each other's inverse, and every stored number is finite (`call_ran`, `Sound`), in the memory that is
  -- left
  pub call_maps : Maps (problem_of p) (call_plan p c m).memory.ws
  call_maps = subst (Maps (problem_of p)) (sym call_ran.lent) call_ran.sound.fits.maps

  -- 0 and 24 are what the final check says of the values there, with its excess and its place
  pub call_checked : IsChecked (call_number (call_plan p c m))
      → (x : Checked) × Checks (problem_of p) (values_of (problem_of p) (call_plan p c m).memory.ws) x
      × ((call_plan p c m).answer ≡ Told (checked_answer e.state x))
  unfolding as_fix_row
  call_checked q =
      let P : Problem = problem_of p in
      let r = call_ran in
      let x : Checked = final_check P (values_of P e.state.ws) in
      let by = checked_by_holds P e.why e.state (subst (λ a. IsChecked (as_fix_row a).number) r.answer_is q) in
      let low = (tolerance_fits p (tests p m c n).passes_2).0 in
      let checks = (final_check_holds P (values_of P e.state.ws) low x).0 refl in
      (x, subst (λ w. Checks P (values_of P w) x) (sym r.lent) checks, r.answer_is ∙ ap Told by)

  closed_passes : call_number (close_call (problem_of p) m e) ≡ 0 → CallPasses p (close_call (problem_of p) m e)
  unfolding close_call close memory_after as_fix_row values_after values_of
  closed_passes q =
      let P : Problem = problem_of p in
      let xs : List Float = values_of P e.state.ws in
      let put : values_after P e.state (answer_of P e) m.values ≡ over xs m.values =
      rw (eq-eqb (number_of (answer_of P e)) 0 q, values_after) refl in
      let w : take (n_of P + m_of P) (values_after P e.state (answer_of P e) m.values) ≡ xs =
      ap (take (n_of P + m_of P)) put ∙ take_at xs (drop (length xs) m.values) (n_of P + m_of P) (length_tab _ _ _) in
      let tolerance = tolerance_fits p (tests p m c n).passes_2 in
      let checks =
      (final_check_holds P xs tolerance.0 (Passed (as_row (answer_of P e)).excess)).0 (passed P e.why e.state q) in
      record {
        values_of_holds = w;
        checked = subst (λ (l : List Float). Checks P l (Passed (as_row (answer_of P e)).excess)) (sym w) checks;
        all_sound = subst (AllSound P) (sym w) ((accepted_exactly P xs tolerance.0 tolerance.1).0 (_, checks));
      }

  -- on 0 the values are written, and they have passed the final check
  pub call_writes : call_number (call_plan p c m) ≡ 0 → CallPasses p (call_plan p c m)
  call_writes = subst (λ (r : Called). call_number r ≡ 0 → CallPasses p r) (sym (call_closes p m c n)) closed_passes

  closed_left : ¬ (call_number (close_call (problem_of p) m e) ≡ 0)
      → (close_call (problem_of p) m e).memory.values ≡ m.values
  unfolding close_call close memory_after as_fix_row values_after
  closed_left z = rw (ne_eqb (number_of (answer_of (problem_of p) e)) 0 z, values_after) refl

  -- and on nothing else
  pub values_left : ¬ (call_number (call_plan p c m) ≡ 0) → (call_plan p c m).memory.values ≡ m.values
  values_left =
      subst (λ (r : Called). ¬ (call_number r ≡ 0) → r.memory.values ≡ m.values)
      (sym (call_closes p m c n)) closed_left

-- ---- the marks
module _ (p : Plan) (m : Memory) where
  abbrev PP : Problem
  PP = problem_of p

  -- what holds of the memory, and of the end's state where a call is accepted, holds of what it leaves
  left_with : (Q : Workspace → Type 0) (c : Call) → Q m.ws → (Accepted p m c → Q (call_end PP (s p m) c).state.ws)
      → Q (call_plan p c m).memory.ws
  left_with Q c before after =
      ⊎_elim
      (λ q. subst (λ (x : Memory). Q x.ws) (sym q) before)
      (λ n. subst Q (sym (call_ran p m c n).lent) (after n))
      (refused_or_not p m c)

  module _ (j : ℕ) (value : Float) (n : Accepted p m (fix j value)) where
    abbrev go_on : Ready p m j
    go_on = ready p m (fix j value) n

    ends : FixEnds PP (s p m) j value (fixed PP (s p m) j value)
    ends = fix_ends PP go_on.fits (s p m) go_on.honest (none_yet p m) j go_on.column value

    after_own_holds : {t : State} → Made PP (s p m) j value t → Fits PP t
    after_own_holds x =
        (made_honest PP go_on.fits (s p m) go_on.honest j go_on.column value
        (value_finite p m j value n) x).sound.fits

    own_told : {w : Stop} → OwnStop w → (t : State) → OwnNumber (number_of (answer_of PP (ended w t)))
    unfolding answer_of as_row
    own_told no_budget t = inl refl
    own_told not_finite t = inr (inl refl)
    own_told singular t = inr (inr (inl refl))
    own_told (infeasible r) t = inr (inr (inr refl))

    closed_holds : {e : Ended} → FixEnds PP (s p m) j value e → FixLeaves p m j value (close_call PP m e)
    unfolding close_call close memory_after as_fix_row
    closed_holds (not_made w o) = as_before (same_places p m) ((told PP w (s p m)).0 ∙ none_yet p m) (own_told o (s p m))
    closed_holds (made t x g) =
        let h = made_held PP go_on.fits (s p m) go_on.honest j go_on.column value x in
        holds h.0 (steps_held PP go_on.fits t (after_own_holds x) j h.0 value g.by_steps h.1)

    -- a fix that is accepted holds its column with exactly that value, through every step of its run; or its own part
    -- stops, with 21, 23, 25 or 26, and nothing has moved
    pub fix_leaves : FixLeaves p m j value (fix_plan p j value m)
    fix_leaves = subst (FixLeaves p m j value) (sym (call_closes p m (fix j value) n)) (closed_holds ends)

    others_held : {e : Ended} → FixEnds PP (s p m) j value e → (k c : ℕ) (x : Float) → ¬ (j ≡ k)
        → Held PP (s p m).ws k c x → Held PP e.state.ws k c x
    others_held (not_made w o) k c x apart h = h
    others_held (made t y g) k c x apart h =
        steps_held PP go_on.fits t (after_own_holds y) k c x g.by_steps
        (made_others PP go_on.fits (s p m) go_on.honest j go_on.column value y k c x apart h)

    others_free : {e : Ended} → FixEnds PP (s p m) j value e → (k : ℕ) → k < n_of PP + m_of PP → ¬ (j ≡ k)
        → Free PP (s p m).ws k → Free PP e.state.ws k
    others_free (not_made w o) k l apart h = h
    others_free (made t y g) k l apart h =
        steps_free PP go_on.fits t (after_own_holds y) k l g.by_steps
        (made_free PP go_on.fits (s p m) go_on.honest j go_on.column value y k l apart h)

  module _ (j : ℕ) (n : Accepted p m (unfix j)) where
    abbrev loose : State
    loose = unmarked PP (s p m) ((s p m).ws.var_states # j)

    abbrev on : Ready p m j
    on = ready p m (unfix j) n

    loose_fits : Fits PP loose
    loose_fits = (unmarked_honest PP (s p m) on.honest _).sound.fits

    -- an unfix that is accepted leaves its column without a mark
    pub unfix_frees : Free PP (unfix_plan p j m).memory.ws j
    unfix_frees =
        subst (λ (w : Workspace). Free PP w j) (sym (call_ran p m (unfix j) n).lent)
        (steps_free PP on.fits loose loose_fits j (omega (arith, on.column))
        (unfix_ends PP (s p m) (none_yet p m) j).by_steps
        (unmarked_free PP (s p m) on.honest.sound.fits j on.column))

    -- so it can't be unfixed again
    pub unfix_once : ¬ Accepted p (unfix_plan p j m).memory (unfix j)
    unfix_once a = a 44 (omega arith) (not_fixed unfix_frees)

    unfix_others : (k c : ℕ) (x : Float) → ¬ (j ≡ k) → Held PP (s p m).ws k c x
        → Held PP (unfixed PP (s p m) j).state.ws k c x
    unfolding unmarked
    unfix_others k c x apart h =
        steps_held PP on.fits loose loose_fits k c x (unfix_ends PP (s p m) (none_yet p m) j).by_steps
        (flags_held PP (s p m) on.honest.sound.fits j _ k c x (omega (arith, on.column)) apart h)

    unfix_free : (k : ℕ) → k < n_of PP + m_of PP → ¬ (j ≡ k) → Free PP (s p m).ws k
        → Free PP (unfixed PP (s p m) j).state.ws k
    unfolding unmarked
    unfix_free k l apart h =
        steps_free PP on.fits loose loose_fits k l (unfix_ends PP (s p m) (none_yet p m) j).by_steps
        (flags_free PP (s p m) on.honest.sound.fits j _ k l (omega (arith, on.column)) apart h)

  -- 02: "A mark stays with its variable": a call that names another column leaves a fixed one its place, its mark and
  -- its value
  pub call_held : (c : Call) (k d : ℕ) (x : Float) → ¬ (column_of c ≡ k) → Held (problem_of p) m.ws k d x
      → Held (problem_of p) (call_plan p c m).memory.ws k d x
  call_held (fix j value) k d x apart h =
      left_with (λ w. Held PP w k d x) (fix j value) h
      (λ n. others_held j value n (ends j value n) k d x apart (subst (λ w. Held PP w k d x) (sym (same_places p m)) h))
  call_held (unfix j) k d x apart h =
      left_with (λ w. Held PP w k d x) (unfix j) h
      (λ n. unfix_others j n k d x apart (subst (λ w. Held PP w k d x) (sym (same_places p m)) h))

  -- and one without a mark gets none
  pub call_free : (c : Call) (k : ℕ) → k < n_of (problem_of p) + m_of (problem_of p) → ¬ (column_of c ≡ k)
      → Free (problem_of p) m.ws k
      → Free (problem_of p) (call_plan p c m).memory.ws k
  call_free (fix j value) k l apart h =
      left_with (λ w. Free PP w k) (fix j value) h
      (λ n. others_free j value n (ends j value n) k l apart (subst (λ w. Free PP w k) (sym (same_places p m)) h))
  call_free (unfix j) k l apart h =
      left_with (λ w. Free PP w k) (unfix j) h
      (λ n. unfix_free j n k l apart (subst (λ w. Free PP w k) (sym (same_places p m)) h))

-- ---- a solve marks no column
module _ (p : Plan) (m : Memory) where
  start_free : (k : ℕ) → k < n_of (problem_of p) + m_of (problem_of p)
      → Free (problem_of p) (start_state (problem_of p) m).ws k
  unfolding start_state start_workspace
  start_free k l =
      let P : Problem = problem_of p in
      let cell = over_at (n_of P + m_of P) (λ v. v) m.ws.var_states 0 k l in
      by_test (ltb k (n_of P))
      (λ t.
      let i = ltb-true k (n_of P) t in
      let flags = over_at (n_of P) (start_flags p (start_vals p)) m.ws.flags 0 k i in
      inr (rw cell (i, ap (λ (y : ℕ). (flags_of y).«fixed») flags ∙ bounds_free _ _)))
      (λ t. inl (rw cell (ltb-false k (n_of P) t)))

  pub solve_free : (number_of (solve_plan p m).answer ≡ 0) ⊎ (20 ≤ number_of (solve_plan p m).answer)
      → (k : ℕ) → k < n_of (problem_of p) + m_of (problem_of p) → Free (problem_of p) (solve_plan p m).memory.ws k
  solve_free h k l =
      let P : Problem = problem_of p in
      let ran = solved_ran p m h in
      let none = ((answer_exact p m (as_row (solve_plan p m).answer) h).0 refl).0 in
      let pass = none_refused p m (λ j h. none j (omega arith)) in
      let fits = passed_fits p m pass.passes_1 pass.passes_2 pass.passes_3 in
      let start = start_sound p m pass.passes_1 pass.passes_2 pass.passes_3 pass.passes_6 in
      subst (λ (w : Workspace). Free P w k) (sym ran.lent)
      (steps_free P fits (start_state P m) start.fits k l ran.reached.by_steps (start_free k l))

-- ---- the value of a fixed column in the values that are written
held_value : (P : Problem) (w : Workspace) (j c : ℕ) (x : Float) → Held P w j c x → values_of P w ! j ≡ x
unfolding values_of value_of var_state_of
held_value P w j c x h =
    get_d_table (n_of P + m_of P) (value_of (n_of P) w) nan j (omega (arith, h))
    ∙ rw (lt-ltb (w.var_states # j) (n_of P) (omega (arith, h)), value_of, var_state_of)
    (ap (λ (k : ℕ). w.nb_var_vals ! k) h.stands ∙ h.valued)

module _ (p : Plan) (m : Memory) where
  -- on 0 it is the one that it was fixed at, bit for bit
  pub held_written : (c : Call) → Accepted p m c → call_number (call_plan p c m) ≡ 0 → (k d : ℕ) (x : Float)
      → Held (problem_of p) (call_plan p c m).memory.ws k d x → written p (call_plan p c m).memory ! k ≡ x
  held_written c n q k d x h =
      ap (λ (l : List Float). l ! k) (call_writes p m c n q).values_of_holds
      ∙ held_value (problem_of p) (call_plan p c m).memory.ws k d x h

  not_own : {k : ℕ} → k ≡ 0 → ¬ OwnNumber k
  not_own q (inl h) = omega arith
  not_own q (inr (inl h)) = omega arith
  not_own q (inr (inr (inl h))) = omega arith
  not_own q (inr (inr (inr h))) = omega arith

  module _ (j : ℕ) (value : Float) where
    -- 0, 20 and 24 say that the column is held
    pub fix_holds : Accepted p m (fix j value) → ¬ OwnNumber (call_number (fix_plan p j value m))
        → (c : ℕ) × Held (problem_of p) (fix_plan p j value m).memory.ws j c value
    fix_holds n other = go (fix_leaves p m j value n)
      where
        go : FixLeaves p m j value (fix_plan p j value m)
            → (c : ℕ) × Held (problem_of p) (fix_plan p j value m).memory.ws j c value
        go (as_before w z k) = absurd (other k)
        go (holds c h) = (c, h)

    -- a fix that answers 0 has written the value that was asked for
    pub fix_writes : call_number (fix_plan p j value m) ≡ 0 → written p (fix_plan p j value m).memory ! j ≡ value
    fix_writes q =
        let n = ran_accepted p m (fix j value) (inl q) in
        let h = fix_holds n (not_own q) in
        held_written (fix j value) n q j h.0 value h.1
