-- Transposes that a call has made are the definition's; what the multipliers ask, of every factor; and that they are
-- those of the state that has the factor stored. No contract cites this file. Assumes nothing.
use mathlib.Core.Path.{◌≡◌, refl, sym, ap, subst, ◌∙◌}
use mathlib.Core.List.{List}
use Prim.Native.Nat.{ℕ}
use lib.Ieee.{Float}
use Rattle.lu_factor_rules.specs.Factor.{Factor, Matrix}
use Rattle.lu_factor_rules.specs.Transpose.{transpose}
use Rattle.lu_factor_rules.specs.Packed.{number_in, packed_numbers, packed_coeffs}
use Rattle.lu_factor_rules.proofs.Shaped.{IsFactor}
use Rattle.lu_factor_rules.proofs.Packed.{Filled, Exact, transpose_filled}
use Rattle.lu_factor_rules.proofs.Packed.{number_back, diag_back, lower_t_back, upper_t_back}
use Rattle.lu_apply.specs.Ask.{Solid}
use Rattle.lu_apply.proofs.Factors.{lower_read, upper_read, solid_factor, solid_transposed}
use Rattle.rules.specs.Plan.{Problem, State, n_of, m_of}
use Rattle.reprice_rules.specs.Reprice.{cost_of, by_rows, basic_costs, multipliers, factored_now}
use Rattle.reprice_numbers.specs.Lent.{dense_both}
use Rattle.reprice_numbers.proofs.Laws.{both_is, solid_mapped}
use Rattle.reprice_factor.specs.Mults.{costs_of, multipliers_of, Solves}

-- ---- transposes that were made
pub filled_by : (m : ℕ) (t : Matrix) {u : Matrix} → u ≡ transpose m t → Filled u
filled_by m t q = subst Filled (sym q) (transpose_filled t m)

pub solid_by : (m : ℕ) {number : List ℕ} {diag : List Float} (lower upper : Matrix) {lt ut : Matrix}
    → ut ≡ transpose m upper → lt ≡ transpose m lower → Solves m number lower upper diag → Solid m number ut lt diag
solid_by m lower upper a b x = rw (a, b) x.solid

-- the solves, of equal parts
pub solved_same : (m : ℕ) (y : List Float) {a b : List ℕ} {u v l k : Matrix} {d e : List Float} → a ≡ b
    → u ≡ v → l ≡ k → d ≡ e → by_rows m a (dense_both m u l d y) ≡ by_rows m b (dense_both m v k e y)
solved_same m y p q r t = rw (p, q, r, t) refl

-- ---- every factor can be solved with so
pub factor_solves : {m : ℕ} {f : Factor} → IsFactor m f → Solves m f.number f.lower f.upper f.diag
factor_solves x =
    record {
      lower_read = lower_read x;
      upper_read = upper_read x;
      solid = solid_mapped (solid_factor x) (solid_transposed x);
    }

-- ---- the multipliers are those of the state with the factor in its arrays
module _ (P : Problem) (s : State) (f : Factor) (x : Exact f) (z : f.size ≡ m_of P) where
  abbrev N : List ℕ
  N = packed_numbers f s.factor.numbers

  abbrev D : List Float
  D = packed_coeffs f s.factor.coeffs

  pub multipliers_are : multipliers_of (m_of P) f.number f.lower f.upper f.diag
      (costs_of (m_of P) (n_of P) P.plan.costs s.ws.basic_vars) ≡ multipliers P (factored_now s f)
  unfolding multipliers basic_costs cost_of
  multipliers_are =
      let y = basic_costs P s.ws in
      sym
      (ap (by_rows (m_of P) (number_in N)) (sym (both_is (m_of P) N D y))
      ∙ solved_same (m_of P) y (number_back f x s.factor.numbers)
      (upper_t_back f x s.factor.numbers s.factor.coeffs ∙ ap (λ (k : ℕ). transpose k f.upper) z)
      (lower_t_back f x s.factor.numbers s.factor.coeffs ∙ ap (λ (k : ℕ). transpose k f.lower) z)
      (diag_back f x s.factor.coeffs))
