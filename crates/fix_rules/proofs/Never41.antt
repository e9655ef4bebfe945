-- 41 refuses no honest memory: what a run, a fix or an unfix that ends in 0 leaves passes the test. Assumes nothing.
use mathlib.Core.Path.{◌≡◌, refl, sym, subst}
use mathlib.Core.Bool.{Bool, true, false, not, ◌||◌}
use mathlib.Core.Logic.{inl, ⊎_elim}
use Prim.Native.Nat.{ℕ, zero, suc, ◌-◌, ◌<◌, ◌≤◌}
use native.Mathlib.Numerals.{add-one}
use native.Mathlib.Omega.{arith}
use lib.Dec.{ltb, leb, eqb}
use lib.ListN.{drop, get_or-append}
use lib.Ieee.{Float}
use borrow.Author.Tests.{ltb-true, ltb-false, lt-ltb, le-leb, eqb-true, eq-eqb}
use Rattle.doubles.specs.Num.{finite}
use Rattle.doubles.specs.Limits.{eta_columns, eta_entries}
use Rattle.doubles.specs.Lists.{◌#◌}
use Rattle.doubles.proofs.Bools.{truth}
use Rattle.doubles.proofs.Loops.{both_true, all_by}
use Rattle.lu_gate.specs.Gate.{finite_at}
use Rattle.lu_factor_rules.specs.Packed.{lower_in, upper_in, diag_in}
use Rattle.rules.specs.Plan.{Plan, Problem, Memory, Etas, Factored, State, problem_of, n_of, m_of, var_state_of, bit}
use Rattle.rules.specs.Refusals.{passes1, passes2, first_bad_row, first_crossed, first_false}
use Rattle.rules.specs.Start.{start_state, dual_feasible}
use Rattle.rules.specs.Basis.{eta_used}
use Rattle.rules.specs.Step.{Outcome, moved, stopped, Ended, ended, run_of, both_runs}
use Rattle.rules.specs.Answers.{as_row, number_of}
use Rattle.rules.specs.Solve.{Solved, answer_of, memory_after, close, end_of, or_else, solve_plan}
use Rattle.rules.specs.Invariant.{ProblemFits, Store, FactorNumbers, Numbers}
use Rattle.rules.specs.declared.VarState.{VarState}
use Rattle.rules.specs.declared.VarState.TheVariants.{Basic, NonBasic}
use Rattle.rules.specs.declared.Stop.TheVariants.{Spent, NotFinite}
use Rattle.rules.proofs.DualLeaving.{leaves_below}
use Rattle.rules.proofs.Refusals.{none_refused}
use Rattle.rules.proofs.Answers.{answer_exact}
use Rattle.rules.proofs.Start.{passed_fits}
use Rattle.rules.proofs.Ran.{solved_closes}
use Rattle.state_maps.specs.Maps.{maps_fine}
use Rattle.state_maps.proofs.Exact.{fine_exactly}
use Rattle.fix_rules.specs.Kept.{flags_fine, store_fine, factor_fine, workspace_finite, factor_finite, known_flags}
use Rattle.fix_rules.specs.Kept.{passes41, kept_state}
use Rattle.fix_rules.specs.Fix.{marked, unmarked, shift_finite, shifted, fix_leaving, fix_test, fix_step}
use Rattle.fix_rules.specs.Fix.{fix_non_basic, after_fix_step, fix_basic, fixed, unfixed}
use Rattle.fix_rules.specs.Calls.{Called, as_fix_row, close_call, passes42, passes43, passes44, or_refused_call}
use Rattle.fix_rules.specs.Calls.{fix_plan, unfix_plan}
use Rattle.fix_rules.proofs.Runs.{run_keeps, both_keep}
use Rattle.fix_rules.proofs.Honest.{Honest, and, starts_fine, start_honest, kept_honest, step_honest}
use Rattle.fix_rules.proofs.Honest.{dual_honest, marked_honest, unmarked_honest, shifted_honest}

-- ---- the store of an honest state passes
module _ (P : Problem) (h : Etas) (count : ℕ) (g : Store P h count) where
  -- an entry in use is one of some column
  entries_below : (n : ℕ) → n ≤ count → (i : ℕ) → i < h.starts # n → h.rows # i < m_of P
  entries_below zero l i b = absurd (omega (arith, g.begins))
  entries_below (suc n) l i b =
      ⊎_elim
      (λ t. entries_below n (omega arith) i (ltb-true i (h.starts # n) t))
      (λ t. (g.column n (omega arith)).rows i (ltb-false i (h.starts # n) t) (rw (← add-one n) at b))
      (truth (ltb i (h.starts # n)))

  store_fine_holds : store_fine (m_of P) h count (h.starts # count) ≡ true
  unfolding store_fine
  store_fine_holds =
      and (le-leb count eta_columns g.columns_fit)
      (and (starts_fine count h.starts g.begins (λ k l. (g.column k l).rises))
      (and (le-leb (h.starts # count) eta_entries g.entries_fit)
      (and (all_by (λ k. ltb (h.leaving # k) (m_of P)) count (λ k l. lt-ltb _ _ (g.column k l).leaves))
      (all_by (λ i. ltb (h.rows # i) (m_of P)) (h.starts # count)
      (λ i l. lt-ltb _ _ (entries_below count (omega arith) i l))))))

-- ---- so do its numbers
module _ (P : Problem) (s : State) (g : Numbers P s) where
  workspace_finite_holds : workspace_finite (n_of P) (m_of P) (eta_used s) s.ws ≡ true
  unfolding workspace_finite
  workspace_finite_holds =
      let w = s.ws in
      and (all_by (finite_at w.basic_var_vals) (m_of P) g.basic_val)
      (and (all_by (finite_at w.nb_var_vals) (n_of P) g.nb_val)
      (and (all_by (finite_at w.prices) (n_of P) g.price)
      (and (all_by (finite_at w.norms) (n_of P) g.norm)
      (and (all_by (finite_at w.dual_norms) (m_of P) g.dual_norm)
      (all_by (finite_at w.etas.coeffs) (eta_used s) g.eta)))))

factor_finite_holds : (m : ℕ) (F : Factored) → FactorNumbers m F → F.there ≡ true
    → factor_finite m F.numbers F.coeffs ≡ true
unfolding factor_finite
factor_finite_holds m F g t =
    let N = F.numbers in
    let D = F.coeffs in
    and (all_by (finite_at (lower_in N D).vals) ((lower_in N D).starts # m) (g.lower t))
    (and (all_by (finite_at (upper_in N D).vals) ((upper_in N D).starts # m) (g.upper t))
    (all_by (finite_at (diag_in D)) m (g.diag t)))

-- what is asked of a factor where there is one, and the cell that says so
of_factor_holds : (b c : Bool) → (b ≡ true → c ≡ true) → not (eqb (bit b) 1) || c ≡ true
of_factor_holds true c h = h refl
of_factor_holds false c h = refl

cell_fine : (b : Bool) → leb (bit b) 1 ≡ true
cell_fine true = refl
cell_fine false = refl

-- ---- what an end in 0 leaves passes
module _ (p : Plan) (m : Memory) (e : Ended) where
  abbrev P : Problem
  P = problem_of p

  abbrev s : State
  s = e.state

  pub close_passes : Honest P s → number_of (answer_of P e) ≡ 0 → passes41 p (close P m e).memory ≡ true
  unfolding close memory_after passes41 flags_fine
  close_passes h q =
      let n = h.sound.numbers in
      let F = s.factor in
      let maps = (fine_exactly p (close P m e).memory).1 (record {
        counted = refl;
        rows = λ r l. get_or-append P.kept (drop (m_of P) m.kept) 0 r l;
        maps = h.sound.fits.maps;
      }) in
      and (eq-eqb (number_of (answer_of P e)) 0 q)
      (and maps
      (and (all_by (λ c. known_flags (s.ws.flags # c)) (n_of P) h.flags)
      (and (store_fine_holds P s.ws.etas s.eta_count h.sound.fits.store)
      (and (of_factor_holds F.there (factor_fine (m_of P) F.numbers F.coeffs) h.factor)
      (and (cell_fine F.there)
      (and (workspace_finite_holds P s n)
      (and (of_factor_holds F.there (factor_finite (m_of P) F.numbers F.coeffs) (factor_finite_holds (m_of P) F n.factor))
      n.objective)))))))

-- ---- every end of a run from an honest state is honest
module _ (P : Problem) (p : ProblemFits P) where
  run_honest : (k : ℕ) (s : State) → Honest P s → Honest P (run_of P k s).state
  run_honest = run_keeps P (Honest P) (λ s h e c i t q. step_honest P p s h e c i t q)

  both_honest : (k : ℕ) (s : State) → Honest P s → Honest P (both_runs P k s).state
  both_honest =
      both_keep P (Honest P) (λ s h e c i t q. step_honest P p s h e c i t q)
      (λ s h l c i t q. dual_honest P p s h _ l (leaves_below P s.ws l c) i t q)

  abbrev Ends : Ended → Type 0
  Ends e = Honest P e.state

  end_honest : (m : Memory) → Honest P (start_state P m) → Ends (end_of P m)
  unfolding end_of
  end_honest m h = go (dual_feasible P.plan)
    where
      k : ℕ
      k = P.plan.budget

      start : State
      start = start_state P m

      go : (b : Bool) → Ends (elim b [ true ↦ both_runs P k start | false ↦ run_of P k start ])
      go true = both_honest k start h
      go false = run_honest k start h

  module _ (s : State) (h : Honest P s) (value : Float) where
    non_basic : (c : ℕ) → finite value ≡ true → Ends (fix_non_basic P s c value)
    unfolding fix_non_basic
    non_basic c v = go (shift_finite P s c value) refl
      where
        go : (b : Bool) → shift_finite P s c value ≡ b
            → Ends (elim b [ true ↦ both_runs P P.plan.budget (shifted P s c value) | false ↦ ended NotFinite s ])
        go true o = both_honest P.plan.budget (shifted P s c value) (shifted_honest P s h c value v o)
        go false o = h

    after_step : (j row : ℕ) → row < m_of P → (o : Outcome) → fix_step P s row value ≡ o → Ends (after_fix_step P s j o)
    unfolding fix_step
    after_step j row l (moved i t) q =
        let c = t.ws.var_states # j in
        both_honest P.plan.budget (marked t c)
        (marked_honest P t (dual_honest P p s h (fix_test P s row value) (fix_leaving P s row value) l i t q) c)
    after_step j row l (stopped w) q = h

    basic : (j row : ℕ) → row < m_of P → Ends (fix_basic P s j row value)
    unfolding fix_basic
    basic j row l = go (eqb P.plan.budget 0)
      where
        go : (b : Bool) → Ends (elim b [ true ↦ ended Spent s | false ↦ after_fix_step P s j (fix_step P s row value) ])
        go true = h
        go false = after_step j row l (fix_step P s row value) refl

    pub fixed_honest : (j : ℕ) → j < n_of P → finite value ≡ true → Ends (fixed P s j value)
    unfolding fixed var_state_of
    fixed_honest j l v = go (ltb cell (n_of P)) refl
      where
        cell : ℕ
        cell = s.ws.var_states # j

        standing : Bool → VarState
        standing b = elim b [ true ↦ NonBasic cell | false ↦ Basic (cell - n_of P) ]

        go : (b : Bool) → ltb cell (n_of P) ≡ b
            → Ends (elim (standing b) [ NonBasic c ↦ fix_non_basic P s c value | Basic r ↦ fix_basic P s j r value ])
        go true e = non_basic cell v
        go false e =
            let inside = (h.sound.fits.maps.variable j (omega arith)).cell in
            basic j (cell - n_of P) (omega (arith, ltb-false cell (n_of P) e, inside))

  pub unfixed_honest : (s : State) → Honest P s → (j : ℕ) → Ends (unfixed P s j)
  unfolding unfixed
  unfixed_honest s h j =
      let c = s.ws.var_states # j in
      run_honest P.plan.budget (unmarked P s c) (unmarked_honest P s h c)

-- ---- the three calls: where one answers 0 the memory that it leaves passes
module _ (p : Plan) (m : Memory) where
  pub solved_passes : number_of (solve_plan p m).answer ≡ 0 → passes41 p (solve_plan p m).memory ≡ true
  unfolding close
  solved_passes q =
      let P = problem_of p in
      let none = ((answer_exact p m (as_row (solve_plan p m).answer) (inl q)).0 refl).0 in
      let pass = none_refused p m (λ j h. none j (omega arith)) in
      let fits = passed_fits p m pass.passes_1 pass.passes_2 pass.passes_3 in
      let start = start_honest p m pass.passes_1 pass.passes_2 pass.passes_3 pass.passes_6 in
      subst (λ (r : Solved). number_of r.answer ≡ 0 → passes41 p r.memory ≡ true) (sym (solved_closes p m none))
      (close_passes p m (end_of P m) (end_honest P fits m start)) q

  abbrev Leaves : Called → Type 0
  Leaves r = (as_fix_row r.answer).number ≡ 0 → passes41 p r.memory ≡ true

  rung : (b : Bool) (a r : Called) → ¬ ((as_fix_row a.answer).number ≡ 0) → (b ≡ true → Leaves r)
      → Leaves (or_else b a r)
  rung true a r n h = h refl
  rung false a r n h = λ q. absurd (n q)

  call_leaves : (e : Ended) → Honest (problem_of p) e.state → Leaves (close_call (problem_of p) m e)
  unfolding close_call as_fix_row close memory_after passes41 maps_fine
  call_leaves e h q = close_passes p m e h q

  module _ (j : ℕ) where
    past_42 : (r : Called)
        → (passes1 p m ≡ true → passes2 p ≡ true → first_bad_row p ≡ p.rows → passes41 p m ≡ true → j < p.columns
        → Leaves r)
        → Leaves (or_refused_call p m j r)
    unfolding as_fix_row as_row
    past_42 r h =
        rung (passes1 p m) _ _ (λ q. omega (arith, q)) (λ one.
        rung (passes2 p) _ _ (λ q. omega (arith, q)) (λ two.
        rung (eqb (first_bad_row p) p.rows) _ _ (λ q. omega (arith, q)) (λ three.
        rung (eqb (first_crossed p) p.columns) _ _ (λ q. omega (arith, q)) (λ four.
        rung (eqb (first_false p) p.rows) _ _ (λ q. omega (arith, q)) (λ five.
        rung (passes41 p m) _ _ (λ q. omega (arith, q)) (λ kept.
        rung (passes42 p j) _ _ (λ q. omega (arith, q)) (λ known.
        h one two (eqb-true _ _ three) kept (ltb-true _ _ known))))))))

    pub fixed_passes : (value : Float) → (as_fix_row (fix_plan p j value m).answer).number ≡ 0
        → passes41 p (fix_plan p j value m).memory ≡ true
    unfolding fix_plan passes43 as_fix_row
    fixed_passes value =
        let P = problem_of p in
        past_42 _ (λ one two three kept known.
        rung (passes43 p j value) _ _ (λ q. omega (arith, q)) (λ inside.
        let fits = passed_fits p m one two three in
        let h = kept_honest p m one two three kept in
        call_leaves (fixed P (kept_state P m) j value)
        (fixed_honest P fits (kept_state P m) h value j known (both_true (finite value) _ inside).0)))

    pub unfixed_passes : (as_fix_row (unfix_plan p j m).answer).number ≡ 0 → passes41 p (unfix_plan p j m).memory ≡ true
    unfolding unfix_plan as_fix_row
    unfixed_passes =
        let P = problem_of p in
        past_42 _ (λ one two three kept known.
        rung (passes44 p m j) _ _ (λ q. omega (arith, q)) (λ held.
        let fits = passed_fits p m one two three in
        let h = kept_honest p m one two three kept in
        call_leaves (unfixed P (kept_state P m) j) (unfixed_honest P fits (kept_state P m) h j)))
