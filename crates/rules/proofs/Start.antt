-- The start is sound: every array is long enough, the maps are each other's inverse, the store is empty, and what is stored is finite. Assumes nothing.
use mathlib.Core.Path.{◌≡◌, refl, ap, ◌∙◌}
use mathlib.Core.Bool.{true}
use Prim.Native.Nat.{ℕ, ◌+◌, ◌-◌, ◌<◌, ◌≤◌}
use native.Mathlib.Omega.{arith}
use lib.ListN.{length, length-set}
use lib.Seq.{get_or-set_same}
use lib.Ieee.{nan, of_bits}
use Rattle.doubles.specs.Num.{f1, finite}
use Rattle.doubles.specs.Lists.{◌!◌, ◌#◌}
use Rattle.doubles.proofs.Bools.{never}
use Rattle.doubles.proofs.Loops.{both_true, all_at}
use Rattle.lu_factor_rules.specs.Packed.{all_factor_numbers, all_factor_coeffs}
use Rattle.rules.specs.Plan.{Plan, Problem, Memory, problem_of, n_of, m_of}
use Rattle.rules.specs.Refusals.{passes1, passes2, first_bad_row}
use Rattle.rules.specs.Start.{start_vals, start_slack, start_norm, start_workspace, start_state, passes6}
use Rattle.rules.specs.Invariant.{ProblemFits, Lengths, Maps, Store, Numbers, Fits, Sound}
use Rattle.rules.proofs.Lists.{over_enough, over_at}
use Rattle.rules.proofs.Lengths.{plan_fits, problem_fits, memory_fits, lent_long, cost_finite}

module _ (P : Problem) (lent : Memory) (l : Lengths P lent.ws) where
  start_lengths : Lengths P (start_state P lent).ws
  unfolding start_state start_workspace
  start_lengths =
      record {
        basic_vars_long = over_enough _ _ _ l.basic_vars_long;
        basic_var_vals_long = over_enough _ _ _ l.basic_var_vals_long;
        nb_vars_long = over_enough _ _ _ l.nb_vars_long;
        nb_var_vals_long = over_enough _ _ _ l.nb_var_vals_long;
        prices_long = over_enough _ _ _ l.prices_long;
        norms_long = over_enough _ _ _ l.norms_long;
        dual_norms_long = over_enough _ _ _ l.dual_norms_long;
        flags_long = over_enough _ _ _ l.flags_long;
        var_states_long = over_enough _ _ _ l.var_states_long;
        leaving_long = l.leaving_long;
        starts_long = omega (arith, length-set lent.ws.etas.starts 0 0, l);
        rows_long = l.rows_long;
        coeffs_long = l.coeffs_long;
      }

  -- the two maps between variables and places are each other's inverse at the start
  start_maps : Maps P (start_state P lent).ws
  unfolding start_state start_workspace
  start_maps =
      let n = n_of P in
      let m = m_of P in
      let cell : (v : ℕ) → v < n + m → (start_state P lent).ws.var_states # v ≡ v = over_at (n + m) (λ v. v) lent.ws.var_states 0 in
      let place : (c : ℕ) → c < n → (start_state P lent).ws.nb_vars # c ≡ c = over_at n (λ c. c) lent.ws.nb_vars 0 in
      let row : (r : ℕ) → r < m → (start_state P lent).ws.basic_vars # r ≡ n + r = over_at m (λ r. n + r) lent.ws.basic_vars 0 in
      record {
        place = λ c h. record { var = omega (arith, place c h); back = ap (λ (v : ℕ). (start_state P lent).ws.var_states # v) (place c h) ∙ cell c (omega arith) };
        row = λ r h. record { var = omega (arith, row r h); back = ap (λ (v : ℕ). (start_state P lent).ws.var_states # v) (row r h) ∙ cell (n + r) (omega arith) };
        variable = λ v h.
            let e = cell v h in
            record {
              cell = omega arith;
              non_basic = λ g. ap (λ (c : ℕ). (start_state P lent).ws.nb_vars # c) e ∙ place v (omega arith);
              basic = λ g.
                  let q : (start_state P lent).ws.var_states # v - n ≡ v - n = ap (λ (x : ℕ). x - n) e in
                  ap (λ (r : ℕ). (start_state P lent).ws.basic_vars # r) q ∙ row (v - n) (omega arith) ∙ omega arith;
            };
      }

  start_store : Store P (start_state P lent).ws.etas 0
  unfolding start_state start_workspace
  start_store =
      let e : (start_state P lent).ws.etas.starts # 0 ≡ 0 = get_or-set_same lent.ws.etas.starts 0 0 0 (omega (arith, l)) in
      record { begins = e; columns_fit = omega arith; entries_fit = omega arith; column = λ k h. absurd (omega arith) }

  pub start_fits : all_factor_numbers ≤ length lent.all_factor_numbers → all_factor_coeffs ≤ length lent.all_factor_coeffs
      → Fits P (start_state P lent)
  unfolding start_state
  start_fits a b =
      record {
        lengths = start_lengths;
        maps = start_maps;
        store = start_store;
        factor = record {
          numbers_long = a;
          coeffs_long = b;
          solid = λ q. never q refl;
          solid_transposed = λ q. never q refl;
        };
        factorings = omega arith;
      }

  one_finite : finite f1 ≡ true
  unfolding finite of_bits
  one_finite = refl

  -- every stored number is finite after the start
  start_numbers : ((j : ℕ) → j < n_of P → finite (P.plan.costs ! j) ≡ true) → passes6 P ≡ true → Numbers P (start_state P lent)
  unfolding start_state start_workspace passes6
  start_numbers costs six =
      let n = n_of P in
      let m = m_of P in
      let xs = start_vals P.plan in
      let c = both_true _ _ six in
      let b = both_true _ _ c.0 in
      let a = both_true _ _ b.0 in
      record {
        objective = b.1;
        basic_val = λ r h. rw (over_at m (start_slack P xs) lent.ws.basic_var_vals nan r h) (all_at (λ r. finite (start_slack P xs r)) m a.1 r h);
        nb_val = λ j h. rw (over_at n (λ j. xs ! j) lent.ws.nb_var_vals nan j h) (all_at (λ j. finite (xs ! j)) n a.0 j h);
        price = λ j h. rw (over_at n (λ j. P.plan.costs ! j) lent.ws.prices nan j h) (costs j h);
        norm = λ j h. rw (over_at n (start_norm P) lent.ws.norms nan j h) (all_at (λ j. finite (start_norm P j)) n c.1 j h);
        dual_norm = λ r h. rw (over_at m (λ r. f1) lent.ws.dual_norms nan r h) one_finite;
        eta = λ i h. absurd (omega (arith, start_store.begins));
        factor = record { lower = λ q. never q refl; upper = λ q. never q refl; diag = λ q. never q refl };
      }

-- 1 to 3 and 6 have passed: the start is sound
module _ (p : Plan) (m : Memory) (one : passes1 p m ≡ true) (two : passes2 p ≡ true) (three : first_bad_row p ≡ p.rows) where
  pub passed_fits : ProblemFits (problem_of p)
  passed_fits = problem_fits p (plan_fits p m one two three)

  pub start_sound : passes6 (problem_of p) ≡ true → Sound (problem_of p) (start_state (problem_of p) m)
  start_sound six =
      let fits = memory_fits p m one in
      let l = lent_long p m fits passed_fits in
      record {
        fits = start_fits (problem_of p) m l fits.factor_numbers_long fits.factor_coeffs_long;
        numbers = start_numbers (problem_of p) m l (cost_finite p two) six;
      }
