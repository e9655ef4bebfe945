-- The factor that an exchange makes of the new basis: its columns are in order, so the factor has its shape and its
-- numbers are finite, and so it is read back from its arrays. Assumes nothing.
use mathlib.Core.Path.{◌≡◌, sym, subst}
use mathlib.Core.Bool.{true}
use Prim.Native.Nat.{ℕ, ◌+◌, ◌<◌, ◌≤◌}
use native.Mathlib.Omega.{arith}
use lib.ListN.{set}
use Rattle.doubles.specs.Num.{finite}
use Rattle.doubles.specs.Limits.{max_rows}
use Rattle.doubles.specs.Lists.{◌!◌, ◌#◌}
use Rattle.lu_factor_rules.specs.Factor.{Factor, Matrix, factored, factorize}
use Rattle.lu_factor_rules.specs.Ready.{Vector as Ordered}
use Rattle.lu_factor_rules.proofs.Shaped.{factor_shaped}
use Rattle.lu_factor_rules.proofs.Numbers.{factor_numbers}
use Rattle.lu_factor_rules.proofs.Packed.{Exact, factor_exact, order_back, number_back, numbers_kept, diag_back, coeffs_kept}
use Rattle.lu_factor_rules.proofs.Packed.{lower_back, upper_back, lower_t_back, upper_t_back}
use Rattle.lu_apply.proofs.Factors.{solid_factor, solid_transposed}
use Rattle.rules.specs.Plan.{Problem, State, n_of, m_of}
use Rattle.rules.specs.Basis.{basis_after, factored_anew}
use Rattle.rules.specs.Invariant.{ProblemFits, Fits, FactorFits, FactorNumbers}
use Rattle.rules.proofs.Lists.{set_either}
use Rattle.rules.proofs.Vectors.{in_order, scattered_vector}

module _ (P : Problem) (p : ProblemFits P) (s : State) (f : Fits P s) (col row : ℕ) (hc : col < n_of P) (hr : row < m_of P) where
  rows_most : m_of P ≤ max_rows
  rows_most = omega (arith, p.few, p.plan)

  -- a column of the new basis is one of a variable
  pub basis_variable : (i : ℕ) → i < m_of P → set s.ws.basic_vars row (s.ws.nb_vars # col) # i < n_of P + m_of P
  basis_variable i h =
      set_either (λ (v : ℕ). v < n_of P + m_of P) s.ws.basic_vars row (s.ws.nb_vars # col) 0 i (f.maps.place col hc).var
      (f.maps.row i h).var

  pub basis_vectors : (i : ℕ) → i < m_of P → Ordered (m_of P) (basis_after P s col row i)
  basis_vectors i h = in_order (scattered_vector P p _ (basis_variable i h))

  module _ (g : Factor) (made : factorize (m_of P) (basis_after P s col row) ≡ factored g) where
    pub exact : Exact g × (g.size ≡ m_of P)
    exact = factor_exact (basis_after P s col row) basis_vectors rows_most (sym made)

    pub refactored_fits : FactorFits (m_of P) (factored_anew g s.factor)
    refactored_fits =
        let F = s.factor in
        let l = f.factor in
        let x = exact.0 in
        let z = exact.1 in
        let shaped = factor_shaped (basis_after P s col row) basis_vectors rows_most (sym made) in
        record {
          numbers_long = omega (arith, numbers_kept g x F.numbers l.numbers_long, l);
          coeffs_long = omega (arith, coeffs_kept g x F.coeffs l.coeffs_long, l);
          solid = λ _.
              rw (
                number_back g x F.numbers,
                lower_back g x F.numbers F.coeffs,
                upper_back g x F.numbers F.coeffs,
                diag_back g x F.coeffs,
              ) (solid_factor shaped);
          solid_transposed = λ _.
              rw (
                order_back g x F.numbers,
                lower_t_back g x F.numbers F.coeffs,
                upper_t_back g x F.numbers F.coeffs,
                diag_back g x F.coeffs,
                z,
              ) (solid_transposed shaped);
        }

    abbrev FiniteTo : Matrix → Type 0
    FiniteTo t = (k : ℕ) → k < t.starts # m_of P → finite (t.vals ! k) ≡ true

    pub refactored_numbers : FactorNumbers (m_of P) (factored_anew g s.factor)
    refactored_numbers =
        let F = s.factor in
        let x = exact.0 in
        let n = factor_numbers (basis_after P s col row) basis_vectors rows_most (sym made) in
        record {
          lower = λ _. subst FiniteTo (sym (lower_back g x F.numbers F.coeffs)) (λ k h. (n.lower_vals k h).is_finite);
          upper = λ _. subst FiniteTo (sym (upper_back g x F.numbers F.coeffs)) n.upper_vals;
          diag = λ _. rw (diag_back g x F.coeffs) n.diag_finite;
        }
