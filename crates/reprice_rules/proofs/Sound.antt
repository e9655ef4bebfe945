-- The own part keeps the invariants: what it leads to is sound. Assumes nothing.
use mathlib.Core.Path.{◌≡◌, sym, subst}
use mathlib.Core.Bool.{true}
use Prim.Native.Nat.{ℕ, ◌<◌, ◌≤◌}
use native.Mathlib.Omega.{arith}
use lib.ListN.{length-set}
use lib.Seq.{get_or-set_same}
use lib.Ieee.{nan}
use Rattle.doubles.specs.Num.{finite}
use Rattle.doubles.specs.Limits.{max_rows}
use Rattle.doubles.specs.Lists.{◌!◌, ◌#◌}
use Rattle.doubles.specs.Loop.{all}
use Rattle.doubles.proofs.Loops.{both_true, all_at}
use Rattle.lu_factor_rules.specs.Factor.{Factor, Matrix, factored, factorize}
use Rattle.lu_factor_rules.specs.Ready.{Vector as Ordered}
use Rattle.lu_factor_rules.proofs.Shaped.{factor_shaped}
use Rattle.lu_factor_rules.proofs.Numbers.{factor_numbers}
use Rattle.lu_factor_rules.proofs.Packed.{Exact, factor_exact, order_back, number_back, numbers_kept, diag_back, coeffs_kept}
use Rattle.lu_factor_rules.proofs.Packed.{lower_back, upper_back, lower_t_back, upper_t_back}
use Rattle.lu_apply.proofs.Factors.{solid_factor, solid_transposed}
use Rattle.rules.specs.Plan.{Problem, State, Etas, n_of, m_of}
use Rattle.rules.specs.Basis.{no_columns}
use Rattle.rules.specs.Invariant.{ProblemFits, Store, FactorFits, FactorNumbers, Numbers, Fits, Sound}
use Rattle.rules.proofs.Lists.{over_enough, over_at}
use Rattle.rules.proofs.Vectors.{in_order, scattered_vector}
use Rattle.reprice_rules.specs.Reprice.{basis_now, factored_now, multipliers, price_at, priced_finite, priced_by}
use Rattle.reprice_rules.specs.Meaning.{Settles, as_it_is, anew, Priced}

-- ---- 1: the basis as it stands, factored
module _ (P : Problem) (p : ProblemFits P) (s : State) (f : Fits P s) (g : Factor)
    (made : factorize (m_of P) (basis_now P s) ≡ factored g) where
  rows_most : m_of P ≤ max_rows
  rows_most = omega (arith, p.few, p.plan)

  pub vectors : (i : ℕ) → i < m_of P → Ordered (m_of P) (basis_now P s i)
  vectors i h = in_order (scattered_vector P p _ (f.maps.row i h).var)

  pub exact : Exact g × (g.size ≡ m_of P)
  exact = factor_exact (basis_now P s) vectors rows_most (sym made)

  factor_fits : FactorFits (m_of P) (factored_now s g).factor
  factor_fits =
      let F = s.factor in
      let l = f.factor in
      let x = exact.0 in
      let z = exact.1 in
      let shaped = factor_shaped (basis_now P s) vectors rows_most (sym made) in
      record {
        numbers_long = omega (arith, numbers_kept g x F.numbers l.numbers_long, l);
        coeffs_long = omega (arith, coeffs_kept g x F.coeffs l.coeffs_long, l);
        solid = λ _.
            rw (
              number_back g x F.numbers,
              lower_back g x F.numbers F.coeffs,
              upper_back g x F.numbers F.coeffs,
              diag_back g x F.coeffs,
            ) (solid_factor shaped);
        solid_transposed = λ _.
            rw (
              order_back g x F.numbers,
              lower_t_back g x F.numbers F.coeffs,
              upper_t_back g x F.numbers F.coeffs,
              diag_back g x F.coeffs,
              z,
            ) (solid_transposed shaped);
      }

  abbrev FiniteTo : Matrix → Type 0
  FiniteTo t = (k : ℕ) → k < t.starts # m_of P → finite (t.vals ! k) ≡ true

  factor_finite_holds : FactorNumbers (m_of P) (factored_now s g).factor
  factor_finite_holds =
      let F = s.factor in
      let x = exact.0 in
      let n = factor_numbers (basis_now P s) vectors rows_most (sym made) in
      record {
        lower = λ _. subst FiniteTo (sym (lower_back g x F.numbers F.coeffs)) (λ k h. (n.lower_vals k h).is_finite);
        upper = λ _. subst FiniteTo (sym (upper_back g x F.numbers F.coeffs)) n.upper_vals;
        diag = λ _. rw (diag_back g x F.coeffs) n.diag_finite;
      }

  abbrev empty : Etas
  empty = no_columns s.ws.etas

  none_used : empty.starts # 0 ≡ 0
  none_used = get_or-set_same s.ws.etas.starts 0 0 0 (omega (arith, f.lengths))

  no_store : Store P empty 0
  no_store =
      let e = none_used in
      record { begins = e; columns_fit = omega arith; entries_fit = omega arith; column = λ k h. absurd (omega arith) }

  now_fits : Fits P (factored_now s g)
  now_fits =
      let l = f.lengths in
      let m = f.maps in
      record {
        lengths = record {
          basic_vars_long = l.basic_vars_long;
          basic_var_vals_long = l.basic_var_vals_long;
          nb_vars_long = l.nb_vars_long;
          nb_var_vals_long = l.nb_var_vals_long;
          prices_long = l.prices_long;
          norms_long = l.norms_long;
          dual_norms_long = l.dual_norms_long;
          flags_long = l.flags_long;
          var_states_long = l.var_states_long;
          leaving_long = l.leaving_long;
          starts_long = simp length-set l.starts_long;
          rows_long = l.rows_long;
          coeffs_long = l.coeffs_long;
        };
        maps = record {
          place = λ k i. let x = m.place k i in record { var = x.var; back = x.back };
          row = λ r i. let x = m.row r i in record { var = x.var; back = x.back };
          variable = λ v i.
              let x = m.variable v i in record { cell = x.cell; non_basic = x.non_basic; basic = x.basic };
        };
        store = no_store;
        factor = factor_fits;
        factorings = f.factorings;
      }

  now_numbers : Numbers P s → Numbers P (factored_now s g)
  now_numbers n =
      record {
        objective = n.objective;
        basic_val = n.basic_val;
        nb_val = n.nb_val;
        price = n.price;
        norm = n.norm;
        dual_norm = n.dual_norm;
        eta = λ i h. absurd (omega (arith, none_used));
        factor = factor_finite_holds;
      }

pub settles_sound : {P : Problem} {s u : State} → ProblemFits P → Sound P s → Settles P s u → Sound P u
settles_sound p h (as_it_is z) = h
settles_sound {P} {s} p h (anew f n q) =
    record { fits = now_fits P p s h.fits f q; numbers = now_numbers P p s h.fits f q h.numbers }

-- ---- 2 to 5
module _ (P : Problem) (s : State) (h : Sound P s) (o : priced_finite P s (multipliers P s) ≡ true) where
  priced_fits : Fits P (priced_by P s (multipliers P s))
  unfolding priced_by
  priced_fits =
      let f = h.fits in
      let l = f.lengths in
      let m = f.maps in
      record {
        lengths = record {
          basic_vars_long = l.basic_vars_long;
          basic_var_vals_long = l.basic_var_vals_long;
          nb_vars_long = l.nb_vars_long;
          nb_var_vals_long = l.nb_var_vals_long;
          prices_long = over_enough (n_of P) (price_at P s (multipliers P s)) s.ws.prices l.prices_long;
          norms_long = l.norms_long;
          dual_norms_long = l.dual_norms_long;
          flags_long = l.flags_long;
          var_states_long = l.var_states_long;
          leaving_long = l.leaving_long;
          starts_long = l.starts_long;
          rows_long = l.rows_long;
          coeffs_long = l.coeffs_long;
        };
        maps = record {
          place = λ k i. let x = m.place k i in record { var = x.var; back = x.back };
          row = λ r i. let x = m.row r i in record { var = x.var; back = x.back };
          variable = λ v i.
              let x = m.variable v i in record { cell = x.cell; non_basic = x.non_basic; basic = x.basic };
        };
        store = f.store;
        factor = f.factor;
        factorings = f.factorings;
      }

  priced_numbers : Numbers P (priced_by P s (multipliers P s))
  unfolding priced_by priced_finite
  priced_numbers =
      let n = h.numbers in
      let y = multipliers P s in
      let a = both_true (all (m_of P) (λ r. finite (y ! r))) _ o in
      let b = both_true (all (n_of P) (λ c. finite (price_at P s y c))) _ a.1 in
      record {
        objective = b.1;
        basic_val = n.basic_val;
        nb_val = n.nb_val;
        price = λ c i.
            rw (over_at (n_of P) (price_at P s y) s.ws.prices nan c i)
            (all_at (λ c. finite (price_at P s y c)) (n_of P) b.0 c i);
        norm = n.norm;
        dual_norm = n.dual_norm;
        eta = n.eta;
        factor = n.factor;
      }

  by_sound : Sound P (priced_by P s (multipliers P s))
  by_sound = record { fits = priced_fits; numbers = priced_numbers }

-- a sound state is led to a sound one
pub priced_sound : {P : Problem} {s t : State} → ProblemFits P → Sound P s → Priced P s t → Sound P t
priced_sound {P} p h x =
    subst (Sound P) (sym x.after) (by_sound P x.basis (settles_sound p h x.settles) x.numbers)
