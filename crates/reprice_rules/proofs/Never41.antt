-- 41 refuses no honest memory: what a call that ends in 0 leaves passes the test. Assumes nothing.
use mathlib.Core.Path.{◌≡◌, sym, subst}
use mathlib.Core.Bool.{true}
use mathlib.Core.Logic.{inl}
use Prim.Native.Nat.{ℕ, ◌≤◌}
use native.Mathlib.Omega.{arith}
use Rattle.doubles.specs.Limits.{max_rows}
use Rattle.doubles.proofs.Tests.{true_by}
use Rattle.lu_factor_rules.specs.Factor.{Factor, factored, factorize}
use Rattle.lu_factor_rules.specs.Packed.{packed_numbers, packed_coeffs}
use Rattle.lu_factor_rules.proofs.Shaped.{factor_shaped}
use Rattle.lu_factor_rules.proofs.Numbers.{factor_numbers}
use Rattle.rules.specs.Plan.{Plan, Memory, Problem, State, problem_of, m_of}
use Rattle.rules.specs.Step.{Ended}
use Rattle.rules.specs.Solve.{memory_after, close}
use Rattle.rules.specs.Invariant.{ProblemFits, Fits}
use Rattle.rules.proofs.Refusals.{none_refused}
use Rattle.rules.proofs.Start.{passed_fits}
use Rattle.state_maps.specs.Maps.{maps_fine}
use Rattle.fix_rules.specs.Kept.{factor_fine, kept_state, passes41}
use Rattle.fix_rules.specs.Calls.{Called, as_fix_row}
use Rattle.fix_rules.specs.Meaning.{call_number}
use Rattle.fix_rules.proofs.Unkept.{unkept_exactly}
use Rattle.fix_rules.proofs.Honest.{Honest, factor_fine_holds, packed_fine, kept_honest, step_honest}
use Rattle.fix_rules.proofs.Runs.{run_keeps}
use Rattle.fix_rules.proofs.Never41.{close_passes}
use Rattle.reprice_rules.specs.Reprice.{Ready, basis_now, priced_by, repriced, goes_on, reprice_end, own_factorings}
use Rattle.reprice_rules.specs.Calls.{close_repriced, reprice_plan}
use Rattle.reprice_rules.specs.Meaning.{as_solve, not_kept, Accepted, Settles, as_it_is, anew, Priced, Own, stops, prices}
use Rattle.reprice_rules.proofs.Refusals.{ran_accepted, reprice_closes}
use Rattle.reprice_rules.proofs.Own.{own_part}
use Rattle.reprice_rules.proofs.Sound.{vectors, exact, settles_sound, priced_sound}

module _ (P : Problem) (p : ProblemFits P) where
  -- the factor that was made of the basis as it stands passes
  now_fine : (s : State) → Fits P s → (g : Factor) → factorize (m_of P) (basis_now P s) ≡ factored g
      → factor_fine (m_of P) (packed_numbers g s.factor.numbers) (packed_coeffs g s.factor.coeffs) ≡ true
  now_fine s f g made =
      let small : m_of P ≤ max_rows = omega (arith, p.few, p.plan) in
      let columns = vectors P p s f g made in
      packed_fine (m_of P) g (exact P p s f g made).0 s.factor.numbers s.factor.coeffs
      (factor_fine_holds (m_of P) small g (factor_shaped (basis_now P s) columns small (sym made))
      (factor_numbers (basis_now P s) columns small (sym made)).diag_least)

  settles_honest : {s u : State} → Honest P s → Settles P s u → Honest P u
  settles_honest h (as_it_is z) = h
  settles_honest {s} h (anew f n q) =
      record {
        sound = settles_sound p h.sound (anew f n q);
        flags = h.flags;
        factor = λ _. now_fine s h.sound.fits f q;
      }

  priced_honest : {s t : State} → Honest P s → Priced P s t → Honest P t
  unfolding priced_by
  priced_honest h x =
      let u = settles_honest h x.settles in
      record {
        sound = priced_sound p h.sound x;
        flags = rw x.after u.flags;
        factor = rw x.after u.factor;
      }

  end_honest : (s : State) → Honest P s → Honest P (reprice_end P s).state
  unfolding reprice_end
  end_honest s h = go (own_part P s)
    where
      go : {o : Ready} → Own P s o → Honest P (goes_on P s o).state
      go (stops x) = h
      go (prices {t} x) =
          run_keeps P (Honest P) (λ s h e c i t q. step_honest P p s h e c i t q) P.plan.budget t (priced_honest h x)

module _ (p : Plan) (m : Memory) where
  abbrev Leaves : Called → Type 0
  Leaves r = call_number r ≡ 0 → passes41 p r.memory ≡ true

  closed_leaves : (k : ℕ) (e : Ended) → Honest (problem_of p) e.state → Leaves (close_repriced (problem_of p) m k e)
  unfolding close_repriced as_fix_row close memory_after passes41 maps_fine
  closed_leaves k e h q = close_passes p m e h q

  accepted_leaves : Accepted p m → Leaves (reprice_plan p m)
  accepted_leaves n =
      let P = problem_of p in
      let s = kept_state P m in
      let t = none_refused p m (λ j h g. n j (omega arith) (as_solve j (omega arith) g)) in
      let o = true_by (λ f. n 41 (omega arith) (not_kept ((unkept_exactly p m).0 f))) in
      let fits = passed_fits p m t.passes_1 t.passes_2 t.passes_3 in
      let h = kept_honest p m t.passes_1 t.passes_2 t.passes_3 o in
      subst Leaves (sym (reprice_closes p m n))
      (closed_leaves (own_factorings s (repriced P s)) (reprice_end P s) (end_honest P fits s h))

  pub reprice_passes : call_number (reprice_plan p m) ≡ 0 → passes41 p (reprice_plan p m).memory ≡ true
  reprice_passes q = accepted_leaves (ran_accepted p m (inl q)) q
