-- The memory that an Optimal solve leaves is as long as it was lent, so that a later call doesn't refuse it with 1.
-- Assumes nothing.
use mathlib.Core.Path.{◌≡◌, refl, sym, ap, subst}
use mathlib.Core.Bool.{Bool, true, false, ◌&&◌}
use mathlib.Core.List.{List}
use mathlib.Core.Logic.{inl}
use Prim.Native.Nat.{ℕ, ◌+◌, ◌≤◌}
use native.Mathlib.Omega.{arith}
use lib.ListN.{length, drop, length-append, length-drop}
use lib.Ieee.{Float}
use lib.Dec.{eqb}
use borrow.Author.Tests.{le-leb}
use Rattle.doubles.specs.Limits.{count_cells}
use Rattle.doubles.specs.Lists.{over}
use Rattle.doubles.proofs.Loops.{both_true}
use Rattle.rules.specs.Plan.{Plan, Memory, Problem, Workspace, problem_of, n_of, m_of}
use Rattle.rules.specs.Refusals.{sizes_fit, plan_long, store_is_long, workspace_long, memory_long, starts_rise, passes1}
use Rattle.rules.specs.FinalCheck.{value_of, values_of}
use Rattle.rules.specs.Step.{Ended}
use Rattle.rules.specs.Answers.{as_row, number_of}
use Rattle.rules.specs.Solve.{Solved, answer_of, values_after, memory_after, close, end_of, solve_plan}
use Rattle.rules.specs.Invariant.{ProblemFits, MemoryFits, Sound, Past, Tails}
use Rattle.rules.proofs.Refusals.{none_refused}
use Rattle.rules.proofs.Lengths.{memory_fits}
use Rattle.rules.proofs.Lists.{over_long}
use Rattle.rules.proofs.Start.{passed_fits}
use Rattle.rules.proofs.Answers.{answer_exact}
use Rattle.rules.proofs.Ran.{solved_closes, solved_ran}
use Rattle.fix_rules.proofs.Honest.{and}

-- cells past n as they were, and n cells in both: as many
past_length : {A : Type 0} {n : ℕ} {l k : List A} → Past n l k → n ≤ length l → n ≤ length k → length l ≡ length k
past_length {n = n} {l} {k} x g h =
    let e : length (drop n l) ≡ length (drop n k) = ap length x.same in
    omega (arith, length-drop n l, length-drop n k, e)

module _ (p : Plan) (m : Memory) (lent : MemoryFits p m) (fits : ProblemFits (problem_of p)) (e : Ended)
    (g : Sound (problem_of p) e.state) (t : Tails (problem_of p) m e.state) where
  abbrev P : Problem
  P = problem_of p

  abbrev w : Workspace
  w = e.state.ws

  store_long : store_is_long w.etas ≡ true
  unfolding store_is_long
  store_long =
      let l = g.fits.lengths in
      and (and (and (le-leb _ _ l.leaving_long) (le-leb _ _ l.starts_long)) (le-leb _ _ l.rows_long))
      (le-leb _ _ l.coeffs_long)

  workspace_long_holds : workspace_long p.columns p.rows w ≡ true
  unfolding workspace_long
  workspace_long_holds =
      let l = g.fits.lengths in
      let few = fits.few in
      let basics = past_length t.basic_vars_tail l.basic_vars_long (omega (arith, few, lent.basic_vars_long)) in
      let vals = past_length t.basic_var_vals_tail l.basic_var_vals_long (omega (arith, few, lent.basic_var_vals_long)) in
      let norms = past_length t.dual_norms_tail l.dual_norms_long (omega (arith, few, lent.dual_norms_long)) in
      let cells = past_length t.var_states_tail l.var_states_long (omega (arith, few, lent.var_states_long)) in
      and (and (and (and (and (and (and (and (and
      (le-leb p.rows (length w.basic_vars) (omega (arith, basics, lent.basic_vars_long)))
      (le-leb p.rows (length w.basic_var_vals) (omega (arith, vals, lent.basic_var_vals_long))))
      (le-leb _ _ l.nb_vars_long))
      (le-leb _ _ l.nb_var_vals_long))
      (le-leb _ _ l.prices_long))
      (le-leb _ _ l.norms_long))
      (le-leb p.rows (length w.dual_norms) (omega (arith, norms, lent.dual_norms_long))))
      (le-leb _ _ l.flags_long))
      (le-leb (p.columns + p.rows) (length w.var_states) (omega (arith, cells, lent.var_states_long))))
      store_long

  values_long : (b : Bool) → length {A = Float} (elim b [ true ↦ over (values_of P w) m.values | false ↦ m.values ]) ≡ length m.values
  unfolding values_of
  values_long true = over_long (n_of P + m_of P) (value_of (n_of P) w) m.values (omega (arith, fits.few, lent.values_long))
  values_long false = refl

  close_long : memory_long p (close P m e).memory ≡ true
  unfolding memory_long close memory_after values_after
  close_long =
      let f = g.fits.factor in
      let r = (close P m e).memory in
      let kept = length-append P.kept (drop (m_of P) m.kept) in
      and (and (and (and (and (and
      (le-leb (p.columns + p.rows) (length r.values)
      (omega (arith, values_long (eqb (number_of (answer_of P e)) 0), lent.values_long)))
      (le-leb p.rows (length r.kept) (omega (arith, kept, length-drop (m_of P) m.kept, lent.kept_long, fits.few))))
      workspace_long_holds)
      (le-leb count_cells (length r.counts) (omega (arith, length-drop 7 m.counts, lent.counts_long))))
      (le-leb 1 (length r.objective) (omega (arith, length-drop 1 m.objective, lent.objective_long))))
      (le-leb _ _ f.numbers_long))
      (le-leb _ _ f.coeffs_long)

module _ (p : Plan) (m : Memory) (q : number_of (solve_plan p m).answer ≡ 0) where
  -- 1's test passes again
  pub solved_passes_1 : passes1 p (solve_plan p m).memory ≡ true
  unfolding passes1
  solved_passes_1 =
      let none = ((answer_exact p m (as_row (solve_plan p m).answer) (inl q)).0 refl).0 in
      let pass = none_refused p m (λ j h. none j (omega arith)) in
      let one = pass.passes_1 in
      let fits = passed_fits p m one pass.passes_2 pass.passes_3 in
      let ran = solved_ran p m (inl q) in
      let long = close_long p m (memory_fits p m one) fits (end_of (problem_of p) m) ran.sound ran.tails.workspace in
      let a = both_true (sizes_fit p && plan_long p && memory_long p m) (starts_rise p) one in
      let b = both_true (sizes_fit p && plan_long p) (memory_long p m) a.0 in
      and (and b.0 (subst (λ (r : Solved). memory_long p r.memory ≡ true) (sym (solved_closes p m none)) long)) a.1
