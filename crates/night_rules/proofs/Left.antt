-- What a solve leaves stands whole in the arrays: read back from them it is the solve's own memory. Assumes nothing.
use mathlib.Core.Path.{◌≡◌, refl, sym, ap, ◌∙◌, subst}
use mathlib.Core.Logic.{◌⊎◌, inl, inr, ⊎_elim}
use mathlib.Core.Bool.{Bool, true, false, ◌&&◌}
use mathlib.Core.List.{List, [], ◌∷◌, ◌++◌}
use Prim.Native.Nat.{ℕ, ◌+◌, ◌-◌, ◌<◌, ◌≤◌}
use native.Mathlib.Omega.{arith}
use lib.ListN.{length, take, drop, length-append, length-drop, take-append-drop}
use lib.Seq.{take_at, drop_at, drop-drop}
use lib.Ieee.{Float}
use borrow.Author.Tests.{eq-eqb}
use Rattle.doubles.specs.Limits.{max_rows, max_columns, vars, eta_columns, eta_entries, count_cells}
use Rattle.doubles.specs.Lists.{◌#◌, over}
use Rattle.doubles.proofs.Bools.{leb_holds}
use Rattle.doubles.proofs.Loops.{both_true}
use Rattle.rules.specs.Plan.{Plan, Memory, Workspace, Problem, problem_of, n_of, m_of, bit}
use Rattle.rules.specs.Parts.{memory_of, workspace_of, etas_of}
use Rattle.rules.specs.Refusals.{sizes_fit, plan_long, memory_long, starts_rise, passes1}
use Rattle.rules.specs.Answers.{as_row, number_of}
use Rattle.rules.specs.Basis.{eta_used}
use Rattle.rules.specs.Step.{Ended}
use Rattle.rules.specs.FinalCheck.{values_of}
use Rattle.rules.specs.Solve.{Solved, solved, answer_of, close, end_of, memory_after, values_after, solve_plan}
use Rattle.rules.specs.Conditions.{NoneBelow, reached}
use Rattle.rules.specs.Invariant.{MemoryFits, ProblemFits, written_to, columns_written, entries_written}
use Rattle.rules.specs.Steps.{Ran}
use Rattle.rules.specs.declared.Answer.{Answer}
use Rattle.rules.specs.declared.Answer.TheVariants.{Optimal, BadSize, BadNumber, BadEntry, CrossedBounds}
use Rattle.rules.specs.declared.Answer.TheVariants.{FalseEmptyRow}
use Rattle.rules.specs.declared.Answer.TheVariants.{StartNotFinite, SlackOutside, Unbounded, Spent, NotFinite}
use Rattle.rules.specs.declared.Answer.TheVariants.{Singular}
use Rattle.rules.specs.declared.Answer.TheVariants.{Infeasible, ValueRejected, RowRejected}
use Rattle.rules.proofs.Lengths.{Arrays as PlanArrays, arrays, memory_fits, lent_long}
use Rattle.rules.proofs.Refusals.{none_refused, refusal_says}
use Rattle.rules.proofs.Start.{passed_fits}
use Rattle.rules.proofs.Answers.{answer_exact}
use Rattle.rules.proofs.Ran.{solved_closes, solved_ran}
use Rattle.sheet_rules.proofs.Fronts.{over_length}
use Rattle.state.specs.Packed.{section, basic_vars_at, nb_vars_at, var_states_at, flag_cells_at, eta_leaving_at, eta_starts_at}
use Rattle.state.specs.Packed.{eta_rows_at, kept_at, counts_at, basic_var_vals_at, nb_var_vals_at, prices_at, norms_at, eta_coeffs_at}
use Rattle.state.specs.Packed.{dual_norms_at, objective_at}
use Rattle.state.specs.Memory.{numbers_end, doubles_end, memory_in, Past, past_of, handed, answered}
use Rattle.state.proofs.Sections.{section_length}
use Rattle.night_rules.specs.Arrays.{Arrays, memory, past, numbers_of, doubles_of, in_arrays, Ran as Runs, ran_by}
use Rattle.night_rules.specs.Arrays.{run_on}
use Rattle.night_rules.proofs.Arrays.{refused_is}

-- ---- every section of m has all its cells
record Full (m : Memory) : Type 0 where
  basic_vars : length m.ws.basic_vars ≡ max_rows
  nb_vars : length m.ws.nb_vars ≡ max_columns
  var_states : length m.ws.var_states ≡ vars
  flags : length m.ws.flags ≡ max_columns
  leaving : length m.ws.etas.leaving ≡ eta_columns
  starts : length m.ws.etas.starts ≡ eta_columns + 1
  rows : length m.ws.etas.rows ≡ eta_entries
  kept : length m.kept ≡ max_rows
  counts : length m.counts ≡ count_cells
  basic_var_vals : length m.ws.basic_var_vals ≡ max_rows
  nb_var_vals : length m.ws.nb_var_vals ≡ max_columns
  prices : length m.ws.prices ≡ max_columns
  norms : length m.ws.norms ≡ max_columns
  coeffs : length m.ws.etas.coeffs ≡ eta_entries
  dual_norms : length m.ws.dual_norms ≡ max_rows
  objective : length m.objective ≡ 1

-- a list that begins with xs from place b on
cut : {A : Type 0} (b k : ℕ) (N xs rest : List A) → length xs ≡ k → drop b N ≡ xs ++ rest
    → (section b k N ≡ xs) × (drop (b + k) N ≡ rest)
cut b k N xs rest h e =
    (ap (take k) e ∙ take_at xs rest k h, sym (drop-drop k b N) ∙ ap (drop k) e ∙ drop_at xs rest k h)

-- then the arrays that they stand in have these sections
module _ (m : Memory) (f : Full m) (t : Past) where
  abbrev N : List ℕ
  N = numbers_of m t

  abbrev D : List Float
  D = doubles_of m t

  back : (memory_in m.values N D m.all_factor_numbers m.all_factor_coeffs ≡ m) × (past_of N D ≡ t)
  back =
      let w = m.ws in
      let n1 = cut basic_vars_at max_rows N w.basic_vars _ f.basic_vars refl in
      let n2 = cut nb_vars_at max_columns N w.nb_vars _ f.nb_vars n1.1 in
      let n3 = cut var_states_at vars N w.var_states _ f.var_states n2.1 in
      let n4 = cut flag_cells_at max_columns N w.flags _ f.flags n3.1 in
      let n5 = cut eta_leaving_at eta_columns N w.etas.leaving _ f.leaving n4.1 in
      let n6 = cut eta_starts_at (eta_columns + 1) N w.etas.starts _ f.starts n5.1 in
      let n7 = cut eta_rows_at eta_entries N w.etas.rows _ f.rows n6.1 in
      let n8 = cut kept_at max_rows N m.kept _ f.kept n7.1 in
      let n9 = cut counts_at count_cells N m.counts _ f.counts n8.1 in
      let d1 = cut basic_var_vals_at max_rows D w.basic_var_vals _ f.basic_var_vals refl in
      let d2 = cut nb_var_vals_at max_columns D w.nb_var_vals _ f.nb_var_vals d1.1 in
      let d3 = cut prices_at max_columns D w.prices _ f.prices d2.1 in
      let d4 = cut norms_at max_columns D w.norms _ f.norms d3.1 in
      let d5 = cut eta_coeffs_at eta_entries D w.etas.coeffs _ f.coeffs d4.1 in
      let d6 = cut dual_norms_at max_rows D w.dual_norms _ f.dual_norms d5.1 in
      let d7 = cut objective_at 1 D m.objective _ f.objective d6.1 in (
        λ i. memory_of m.values (n8.0 i)
            (workspace_of (n1.0 i) (d1.0 i) (n2.0 i) (d2.0 i) (d3.0 i) (d4.0 i) (d6.0 i) (n4.0 i) (n3.0 i)
            (etas_of (n5.0 i) (n6.0 i) (n7.0 i) (d5.0 i))) (n9.0 i) (d7.0 i) m.all_factor_numbers m.all_factor_coeffs,
        λ i. record { numbers = n9.1 i; doubles = d7.1 i },
      )

-- ---- lengths
-- a section that isn't cut short
reaches : {A : Type 0} (b k : ℕ) (l : List A) → 0 < k → k ≤ length (section b k l) → b + k ≤ length l
reaches b k l p h =
    omega (
      arith,
      p,
      h,
      ap length (take-append-drop k (drop b l)),
      length-append (take k (drop b l))
          (drop k (drop b l)),
      length-drop k (drop b l),
      length-drop b l,
    )

same_long : {A : Type 0} (k : ℕ) (l r : List A) → k ≤ length l → k ≤ length r → drop k l ≡ drop k r
    → length l ≡ length r
same_long k l r h g e = omega (arith, h, g, ap length e, length-drop k l, length-drop k r)

closed : (P : Problem) (m : Memory) (e : Ended) → count_cells ≤ length m.counts → 1 ≤ length m.objective
    → (length (close P m e).memory.counts ≡ length m.counts) ×
    (length (close P m e).memory.objective ≡ length m.objective)
unfolding close memory_after
closed P m e h g =
    let t = e.state in
    let k = answer_of P e in (
      over_length
          (m_of P ∷ t.eta_count ∷ eta_used t ∷ t.steps ∷ number_of k ∷ bit t.factor.there ∷ t.factor.times ∷ [])
          m.counts h,
      over_length (t.objective ∷ []) m.objective g,
    )

few : (b : Bool) (w u : ℕ) → u ≤ w → written_to b w u ≤ w
few true w u h = omega arith
few false w u h = h

full_lent : (a : Arrays) → numbers_end ≤ length a.numbers → doubles_end ≤ length a.doubles → Full (memory a)
full_lent a h g =
    let N = a.numbers in
    let D = a.doubles in
    record {
      basic_vars = section_length basic_vars_at max_rows N (omega arith);
      nb_vars = section_length nb_vars_at max_columns N (omega arith);
      var_states = section_length var_states_at vars N (omega arith);
      flags = section_length flag_cells_at max_columns N (omega arith);
      leaving = section_length eta_leaving_at eta_columns N (omega arith);
      starts = section_length eta_starts_at (eta_columns + 1) N (omega arith);
      rows = section_length eta_rows_at eta_entries N (omega arith);
      kept = section_length kept_at max_rows N (omega arith);
      counts = section_length counts_at count_cells N (omega arith);
      basic_var_vals = section_length basic_var_vals_at max_rows D (omega arith);
      nb_var_vals = section_length nb_var_vals_at max_columns D (omega arith);
      prices = section_length prices_at max_columns D (omega arith);
      norms = section_length norms_at max_columns D (omega arith);
      coeffs = section_length eta_coeffs_at eta_entries D (omega arith);
      dual_norms = section_length dual_norms_at max_rows D (omega arith);
      objective = section_length objective_at 1 D (omega arith);
    }

-- ---- a run that isn't refused
module _ (p : Plan) (a : Arrays)
    (h : (number_of (solve_plan p (memory a)).answer ≡ 0) ⊎ (20 ≤ number_of (solve_plan p (memory a)).answer)) where
  abbrev S : Solved
  S = solve_plan p (memory a)

  none : NoneBelow 8 p (memory a)
  none = ((answer_exact p (memory a) (as_row S.answer) h).0 refl).0

  pub passed : passes1 p (memory a) ≡ true
  passed = (none_refused p (memory a) (λ j l. none j (omega arith))).passes_1

  fits : MemoryFits p (memory a)
  fits = memory_fits p (memory a) passed

  problem : ProblemFits (problem_of p)
  problem =
      let n = none_refused p (memory a) (λ j l. none j (omega arith)) in
      passed_fits p (memory a) n.passes_1 n.passes_2 n.passes_3

  closes : S ≡ close (problem_of p) (memory a) (end_of (problem_of p) (memory a))
  closes = solved_closes p (memory a) none

  r : Ran p (memory a) S (reached p (memory a))
  r = solved_ran p (memory a) h

  lent_full : Full (memory a)
  lent_full =
      full_lent a (reaches counts_at count_cells a.numbers (omega arith) fits.counts_long)
      (reaches objective_at 1 a.doubles (omega arith) fits.objective_long)

  left_full : Full S.memory
  unfolding close memory_after
  left_full =
      let P = problem_of p in
      let m = memory a in
      let g = lent_full in
      let t = reached p m in
      let l = r.sound.fits.lengths in
      let k = lent_long p m fits problem in
      let v = r.tails.workspace in
      let s = r.sound.fits.store in
      let c = few t.factor.there eta_columns t.eta_count s.columns_fit in
      let u = few t.factor.there eta_entries (eta_used t) s.entries_fit in
      record {
        basic_vars = ap (λ (w : Workspace). length w.basic_vars) r.lent ∙ same_long (m_of P) t.ws.basic_vars
            m.ws.basic_vars l.basic_vars_long k.basic_vars_long v.basic_vars_tail.same ∙ g.basic_vars;
        nb_vars = ap (λ (w : Workspace). length w.nb_vars) r.lent ∙ same_long (n_of P) t.ws.nb_vars
            m.ws.nb_vars l.nb_vars_long k.nb_vars_long v.nb_vars_tail.same ∙ g.nb_vars;
        var_states = ap (λ (w : Workspace). length w.var_states) r.lent ∙ same_long (n_of P + m_of P)
            t.ws.var_states m.ws.var_states l.var_states_long k.var_states_long v.var_states_tail.same
            ∙ g.var_states;
        flags = ap (λ (w : Workspace). length w.flags) r.lent ∙ same_long (n_of P) t.ws.flags m.ws.flags
            l.flags_long k.flags_long v.flags_tail.same ∙ g.flags;
        basic_var_vals = ap (λ (w : Workspace). length w.basic_var_vals) r.lent ∙ same_long (m_of P)
            t.ws.basic_var_vals m.ws.basic_var_vals l.basic_var_vals_long k.basic_var_vals_long
            v.basic_var_vals_tail.same ∙ g.basic_var_vals;
        nb_var_vals = ap (λ (w : Workspace). length w.nb_var_vals) r.lent ∙ same_long (n_of P) t.ws.nb_var_vals
            m.ws.nb_var_vals l.nb_var_vals_long k.nb_var_vals_long v.nb_var_vals_tail.same ∙ g.nb_var_vals;
        prices = ap (λ (w : Workspace). length w.prices) r.lent ∙ same_long (n_of P) t.ws.prices
            m.ws.prices l.prices_long k.prices_long v.prices_tail.same ∙ g.prices;
        norms = ap (λ (w : Workspace). length w.norms) r.lent ∙ same_long (n_of P) t.ws.norms m.ws.norms
            l.norms_long k.norms_long v.norms_tail.same ∙ g.norms;
        dual_norms = ap (λ (w : Workspace). length w.dual_norms) r.lent ∙ same_long (m_of P) t.ws.dual_norms
            m.ws.dual_norms l.dual_norms_long k.dual_norms_long v.dual_norms_tail.same ∙ g.dual_norms;
        leaving = ap (λ (w : Workspace). length w.etas.leaving) r.lent ∙ same_long (columns_written t)
            t.ws.etas.leaving m.ws.etas.leaving (omega (arith, c, l.leaving_long))
            (omega (arith, c, k.leaving_long)) v.leaving_tail.same ∙ g.leaving;
        starts = ap (λ (w : Workspace). length w.etas.starts) r.lent ∙ same_long (columns_written t + 1)
            t.ws.etas.starts m.ws.etas.starts (omega (arith, c, l.starts_long))
            (omega (arith, c, k.starts_long)) v.starts_tail.same ∙ g.starts;
        rows = ap (λ (w : Workspace). length w.etas.rows) r.lent ∙ same_long (entries_written t)
            t.ws.etas.rows m.ws.etas.rows (omega (arith, u, l.rows_long)) (omega (arith, u, k.rows_long))
            v.rows_tail.same ∙ g.rows;
        coeffs = ap (λ (w : Workspace). length w.etas.coeffs) r.lent ∙ same_long (entries_written t)
            t.ws.etas.coeffs m.ws.etas.coeffs (omega (arith, u, l.coeffs_long))
            (omega (arith, u, k.coeffs_long)) v.coeffs_tail.same ∙ g.coeffs;
        kept = ap (λ (x : Solved). length x.memory.kept) closes ∙ over_length P.kept m.kept
            (omega (arith, problem.few, fits.kept_long)) ∙ g.kept;
        counts = ap (λ (x : Solved). length x.memory.counts) closes ∙ (closed P m (end_of P m) fits.counts_long
            fits.objective_long).0 ∙ g.counts;
        objective = ap (λ (x : Solved). length x.memory.objective) closes ∙ (closed P m (end_of P m)
            fits.counts_long fits.objective_long).1 ∙ g.objective;
      }

  pub run_back : (memory (run_on p a).arrays ≡ S.memory) × (past (run_on p a).arrays ≡ past a)
  unfolding run_on ran_by in_arrays
  run_back = back S.memory left_full (past a)

  -- and it is long enough to be read
  pub values_long : number_of S.answer ≡ 0 → p.columns ≤ length S.memory.values
  unfolding close memory_after values_after
  values_long z =
      let P = problem_of p in
      let e = end_of P (memory a) in
      let q : S.memory.values ≡ values_after P e.state (answer_of P e) a.values = ap
      (λ (x : Solved). x.memory.values) closes in
      let b : number_of (answer_of P e) ≡ 0 = ap (λ (x : Solved). number_of x.answer) (sym closes) ∙ z in
      let c : values_after P e.state (answer_of P e) a.values ≡ over (values_of P e.state.ws) a.values = rw
      (eq-eqb _ 0 b, values_after) in
      let v = values_of P e.state.ws in
      omega (
        arith,
        ap length (q ∙ c),
        length-append v (drop (length v) a.values),
        length-drop (length v)
            a.values,
        fits.values_long,
      )

  pub status_told : S.memory.counts # 4 ≡ number_of S.answer
  unfolding close memory_after
  status_told = ap (λ (x : Solved). x.memory.counts # 4) closes ∙ ap (λ (x : Solved). number_of x.answer)
      (sym closes)

  pub counts_back : section counts_at count_cells (run_on p a).arrays.numbers ≡ S.memory.counts
  counts_back = ap (λ (m : Memory). m.counts) run_back.0

  pub numbers_long : numbers_end ≤ length (run_on p a).arrays.numbers
  numbers_long =
      reaches counts_at count_cells (run_on p a).arrays.numbers (omega arith)
      (omega (arith, ap length counts_back, left_full.counts))

  pub doubles_long : doubles_end ≤ length (run_on p a).arrays.doubles
  doubles_long =
      reaches objective_at 1 (run_on p a).arrays.doubles (omega arith)
      (omega (arith, ap (λ (m : Memory). length m.objective) run_back.0, left_full.objective))

  pub sizes_in_holds : (p.columns ≤ max_columns) × (p.rows ≤ max_rows)
  unfolding passes1 sizes_fit
  sizes_in_holds =
      let c = both_true _ _ passed in
      let b = both_true _ _ c.0 in
      let a = both_true _ _ b.0 in
      let s = both_true _ _ a.0 in
      let u = both_true _ _ s.0 in
      let t = both_true _ _ u.0 in
      ((leb_holds _ _).0 t.0, (leb_holds _ _).0 t.1)

  pub plan_long_holds : PlanArrays p
  unfolding passes1
  plan_long_holds =
      let m = memory a in
      let c = both_true (sizes_fit p && plan_long p && memory_long p m) (starts_rise p) passed in
      let b = both_true (sizes_fit p && plan_long p) (memory_long p m) c.0 in
      arrays p (both_true (sizes_fit p) (plan_long p) b.0).1

-- ---- any run
-- an answer is a refusal, or has one of the other numbers
kinds : (r : Answer) → ((1 ≤ number_of r) × (number_of r < 8)) ⊎ ((number_of r ≡ 0) ⊎ (20 ≤ number_of r))
unfolding as_row
kinds (Optimal o k x) = inr (inl refl)
kinds BadSize = inl (omega arith, omega arith)
kinds BadNumber = inl (omega arith, omega arith)
kinds (BadEntry i k) = inl (omega arith, omega arith)
kinds (CrossedBounds j) = inl (omega arith, omega arith)
kinds (FalseEmptyRow i) = inl (omega arith, omega arith)
kinds StartNotFinite = inl (omega arith, omega arith)
kinds SlackOutside = inl (omega arith, omega arith)
kinds (Unbounded o k) = inr (inr (omega arith))
kinds (Spent o k) = inr (inr (omega arith))
kinds (NotFinite o k) = inr (inr (omega arith))
kinds (Singular o k) = inr (inr (omega arith))
kinds (Infeasible o k i) = inr (inr (omega arith))
kinds (ValueRejected o k v x) = inr (inr (omega arith))
kinds (RowRejected o k i x) = inr (inr (omega arith))

-- what solve's contract says of its answer and of the five arrays, said of a run: `solve!Meaning` `PromisedIn`
module _ (p : Plan) (a : Arrays) where
  abbrev b : Arrays
  b = (run_on p a).arrays

  abbrev Promised : Type 0
  Promised =
      answered (run_on p a).answer b.values b.numbers b.doubles b.all_factor_numbers b.all_factor_coeffs
      ≡ handed (solve_plan p (memory a)) (past a)

  refused : (solve_plan p (memory a)).memory ≡ memory a → Promised
  unfolding run_on ran_by
  refused e =
      let q = refused_is p a (solve_plan p (memory a)).answer
      (ap (λ (m : Memory). solved (solve_plan p (memory a)).answer m) (sym e)) in
      subst (λ (x : Runs).
      answered x.answer x.arrays.values x.arrays.numbers x.arrays.doubles x.arrays.all_factor_numbers
      x.arrays.all_factor_coeffs
      ≡ handed (solve_plan p (memory a)) (past a)) q
      (ap (λ (m : Memory). handed (solved (solve_plan p (memory a)).answer m) (past a)) (sym e))

  ran : (number_of (solve_plan p (memory a)).answer ≡ 0) ⊎ (20 ≤ number_of (solve_plan p (memory a)).answer) → Promised
  unfolding run_on ran_by
  ran h = let e = run_back p a h in λ i. handed (solved (solve_plan p (memory a)).answer (e.0 i)) (e.1 i)

  pub run_promised : Promised
  run_promised = ⊎_elim
      (λ k. refused (refusal_says p (memory a) (number_of (solve_plan p (memory a)).answer) k.0 k.1 refl).memory)
      ran (kinds (solve_plan p (memory a)).answer)
