-- What the solves ask of a factor, and what they leave. No contract cites this file. Assumes nothing.
use mathlib.Core.Path.{◌≡◌, refl, sym, subst}
use mathlib.Core.Bool.{Bool, true, false}
use mathlib.Core.List.{List}
use Prim.Native.Nat.{ℕ, ◌≤◌}
use native.Mathlib.Nat.{le_refl}
use native.Mathlib.Omega.{arith}
use lib.Ieee.{Float}
use Rattle.doubles.specs.Limits.{places}
use Rattle.sparse.specs.Scattered.{Sv, Good, Within, relisted}
use Rattle.lu_factor_rules.specs.Packed.{packed_solve}
use Rattle.lu_factor_rules.specs.Ready.{Vector as Ordered}
use Rattle.lu_apply.proofs.Laws.{vector_solve_in}
use Rattle.rules.specs.Plan.{Problem, Etas, Factored, State, m_of}
use Rattle.rules.specs.Parts.{factored_of}
use Rattle.rules.specs.Basis.{factor_by, factor_solve, factor_solve_transp, solve_etas, solve, solve_transp, tau_of}
use Rattle.rules.specs.Invariant.{FactorFits, Vector}
use Rattle.rules.proofs.Vectors.{vector_few}
use Rattle.basis_etas.specs.Store.{Readable}
use Rattle.basis_etas.proofs.Laws.{good_etas}
use Rattle.basis_solves.specs.Lent.{Transposed, RowSolve}

-- ---- the factor

-- a vector, as the factor's solves ask it
pub in_order : {m : ℕ} {s : Sv} → Vector m s → Ordered m s
in_order v = record { good = v.good; below = v.places_below }

-- what the factor leaves can be handed to the etas
pub good_factor_solve : {m : ℕ} (F : Factored) → FactorFits m F → (y : Sv) → Vector m y → Good places (factor_solve m F y)
unfolding factor_solve packed_solve
good_factor_solve {m} F f y v = go F.there refl
  where
    go : (b : Bool) → F.there ≡ b → Good places (factor_by b (packed_solve m F.numbers F.coeffs) y)
    go true e = (vector_solve_in (f.solid e) (in_order v)).good
    go false e = v.good

-- how often the basis was factored is not asked
module _ {b : Bool} {t : ℕ} {N : List ℕ} {D : List Float} where
  pub untimed : {m : ℕ} → FactorFits m (factored_of b t N D) → FactorFits m (factored_of b 0 N D)
  untimed f =
      record {
        numbers_long = f.numbers_long;
        coeffs_long = f.coeffs_long;
        solid = f.solid;
        solid_transposed = f.solid_transposed;
      }

  pub transposed_untimed : {m : ℕ} {h : Etas} {k : ℕ} {y : Sv}
      → Transposed m h k (factored_of b t N D) y → Transposed m h k (factored_of b 0 N D) y
  transposed_untimed r = record { etas = r.etas; factor = untimed r.factor; start = r.start; between = r.between }

  pub row_untimed : {P : Problem} {cells : ℕ} {h : Etas} {k : ℕ} {y : Sv}
      → RowSolve P cells h k (factored_of b t N D) y → RowSolve P cells h k (factored_of b 0 N D) y
  unfolding solve_transp factor_solve_transp
  row_untimed r = record { solve = transposed_untimed r.solve; rows = r.rows; few = r.few; solved = r.solved }

-- ---- a row solve: it may start from what is y, and its result lists rows
pub starts_with : {m : ℕ} {h : Etas} {k : ℕ} {F : Factored} {y z : Sv} → Transposed m h k F y → z ≡ y → Transposed m h k F z
starts_with {m} {h} {k} {F} r e = subst (Transposed m h k F) (sym e) r

module _ (P : Problem) (cells : ℕ) (h : Etas) (k : ℕ) (F : Factored) (y : Sv) (r : RowSolve P cells h k F y) where
  pub solved_rows : (z : Sv) → z ≡ solve_transp (m_of P) F h k y
      → (z.pat.count ≤ places) × Within (m_of P) z.pat.count z.pat.list
  solved_rows z e =
      let v : Vector (m_of P) z = subst (Vector (m_of P)) (sym e) r.solved in
      (omega (arith, vector_few z v, r.few), record { inside = v.places_below.below })

-- ---- the column solve's result is in order: tau's, of a vector that is
pub good_tau : (P : Problem) (s : State) → FactorFits (m_of P) s.factor → Readable s.ws.etas s.eta_count → (y : Sv)
    → Vector (m_of P) (relisted y) → Good places (tau_of P s y)
unfolding tau_of solve solve_etas
good_tau P s f r y v = good_etas s.ws.etas s.eta_count r _ (good_factor_solve s.factor f _ v) s.eta_count (le_refl s.eta_count)
