-- What the calls of the own part ask, from a problem and a state that fit, and the ways it ends. No contract cites this
-- file. Assumes nothing.
use mathlib.Core.Path.{◌≡◌, refl, sym, subst, ap, fun_ext, ◌∙◌}
use mathlib.Core.Bool.{Bool, true, false}
use mathlib.Core.List.{List}
use Prim.Native.Nat.{ℕ, ◌+◌, ◌<◌, ◌≤◌}
use native.Mathlib.Omega.{arith}
use lib.ListN.{length, set}
use lib.Ieee.{Float}
use borrow.Author.Tests.{eq-eqb, ne_eqb}
use Rattle.doubles.specs.Limits.{max_rows, eta_columns}
use Rattle.doubles.specs.Lists.{◌#◌}
use Rattle.lu_factor_rules.specs.Factor.{Outcome, factored, non_finite, singular, Factor, factorize}
use Rattle.lu_factor_rules.specs.Packed.{packed_numbers, packed_coeffs}
use Rattle.lu_factor_rules.specs.Ready.{Vector as Ordered}
use Rattle.lu_factor_rules.proofs.Shaped.{factor_shaped}
use Rattle.lu_factor_rules.proofs.Packed.{Exact, factor_exact}
use Rattle.rules.specs.Plan.{Problem, Workspace, State, m_of, column}
use Rattle.rules.specs.Parts.{plan_of, problem, rowed, factored_of, state_with}
use Rattle.rules.specs.Invariant.{FactorFits}
use Rattle.rules.specs.declared.Stop.TheVariants.{NotFinite, Singular}
use Rattle.rules.proofs.Vectors.{rows_places, in_order, scattered_vector}
use Rattle.basis_columns.specs.Columns.{Matrix, Valued, ByColumns}
use Rattle.basis_columns.specs.Loading.{ColumnLent}
use Rattle.basis_columns.proofs.Loading.{column_is}
use Rattle.basis_columns.proofs.Callers.{matrix_of, matrix_fits, values_fit}
use Rattle.basis_factor.specs.Basis.{Basis, columns_of}
use Rattle.state.specs.Packed.{packed, state_in, eta_starts_at}
use Rattle.state.specs.declared.Tally.{Tally}
use Rattle.state.proofs.Sections.{section_length, written}
use Rattle.state.proofs.Moves.{as_lent, in_eta_starts}
use Rattle.step_refactor.specs.Left.{Left, on, off}
use Rattle.reprice_rules.specs.Reprice.{ready, basis_now, factored_now, or_halts, settled, by_rows, multipliers}
use Rattle.reprice_rules.specs.Reprice.{objective_of, priced_finite, priced_by, priced_if, priced, then_priced, repriced}
use Rattle.reprice_numbers.proofs.Laws.{scratch_long}
use Rattle.reprice_factor.specs.Mults.{costs_of, multipliers_of, Solves}
use Rattle.reprice_factor.proofs.Laws.{factor_solves, multipliers_are}
use Rattle.reprice_prices.specs.Lent.{priced_of, Prices}
use Rattle.reprice_prices.specs.Left.{after_own}
use Rattle.reprice_prices.proofs.Laws.{fits_prices}
use Rattle.reprice_store.specs.Lent.{Pricing, PricingBy, anew_of}

-- ---- what the calls ask
module _ {n : ℕ} {costs : List Float} {starts cols : List ℕ} {coeffs : List Float} {kept N : List ℕ} {D : List Float}
    {F : List ℕ} {G : List Float} {t : Tally} (p : Pricing n costs starts cols coeffs kept N D F G t) where
  -- the problem of which a part is lent
  abbrev whole : Problem
  whole =
      problem (plan_of n p.rows p.entries p.budget p.tolerance costs p.lowers p.uppers starts cols
      coeffs p.ops p.rhs) kept

  pub transposes : Matrix (matrix_of whole) × Valued (matrix_of whole)
  transposes = (matrix_fits whole p.problem_fits, values_fit whole p.problem_fits)

  pub by_columns : {S R : List ℕ} {X : List Float} → ByColumns (rowed n starts cols coeffs kept) S R X → n < length S
      → PricingBy n costs kept S R X N D F G t
  by_columns m long =
      record { starts = starts; cols = cols; coeffs = coeffs; pricing = p; by_columns = m; starts_long = long }

module _ {n : ℕ} {costs : List Float} {kept S R : List ℕ} {X : List Float} {N : List ℕ} {D : List Float} {F : List ℕ}
    {G : List Float} {t : Tally} (pb : PricingBy n costs kept S R X N D F G t) where
  abbrev p : Pricing n costs pb.starts pb.cols pb.coeffs kept N D F G t
  p = pb.pricing

  abbrev P : Problem
  P = whole p

  abbrev s : State
  s = state_in N D F G t

  abbrev basics : List ℕ
  basics = (packed N D).basic_vars

  pub rows_most : length kept ≤ max_rows
  rows_most = omega (arith, p.problem_fits.few, p.problem_fits.plan)

  pub basics_long : length basics ≡ max_rows
  basics_long = section_length 0 max_rows N (omega (arith, p.sized))

  pub basics_enough : length kept ≤ length basics
  basics_enough = omega (arith, rows_most, basics_long)

  pub prices_asks : Prices n costs kept S R X N D
  prices_asks = fits_prices P p.problem_fits p.sized p.state_fits pb.by_columns pb.starts_long

  pub factor_asks : FactorFits (length kept) s.factor
  factor_asks = p.state_fits.factor

  -- a variable's column is lent
  column_lent : (v : ℕ) → v < n + length kept → ColumnLent S R X n v
  column_lent v l =
      let m = pb.by_columns in
      let few = rows_places P p.problem_fits in
      record {
        starts_long = λ h. omega (arith, pb.starts_long);
        rises = λ h. (m.column v h).rises;
        rows_long = λ h. omega (arith, m.rows_long, (m.column v h).ends);
        coeffs_long = λ h. omega (arith, m.coeffs_long, (m.column v h).ends);
        row = λ h k a b. omega (arith, (m.column v h).row k a b);
        own = λ h. omega arith;
      }

  -- the columns of the basis, for any rows that the columns are those of
  columns_are : (starts cols : List ℕ) (coeffs : List Float) → ByColumns (rowed n starts cols coeffs kept) S R X
      → (i : ℕ) → columns_of S R X n basics i ≡ basis_now (priced_of n costs starts cols coeffs kept) s i
  unfolding column
  columns_are starts cols coeffs m i = column_is S R X n (basics # i) (rowed n starts cols coeffs kept) refl m

  pub factor_is : (starts cols : List ℕ) (coeffs : List Float) → ByColumns (rowed n starts cols coeffs kept) S R X
      → factorize (length kept) (columns_of S R X n basics)
      ≡ factorize (length kept) (basis_now (priced_of n costs starts cols coeffs kept) s)
  factor_is starts cols coeffs m = ap (factorize (length kept)) (fun_ext (columns_are starts cols coeffs m))

  pub basis_asks : Basis (length kept) S R X n basics
  unfolding column
  basis_asks =
      record {
        lent = λ i h. column_lent (basics # i) (p.state_fits.maps.row i h).var;
        vector = λ i h.
            subst (Ordered (length kept)) (sym (columns_are pb.starts pb.cols pb.coeffs pb.by_columns i))
            (in_order (scattered_vector P p.problem_fits _ (p.state_fits.maps.row i h).var));
      }

  -- the factor of the basis
  module _ {f : Factor} (q : factored f ≡ factorize (length kept) (columns_of S R X n basics)) where
    pub solves : Solves (length kept) f.number f.lower f.upper f.diag
    solves = factor_solves (factor_shaped (columns_of S R X n basics) basis_asks.vector rows_most q)

    exact : Exact f × (f.size ≡ length kept)
    exact = factor_exact (columns_of S R X n basics) basis_asks.vector rows_most q

    pub multipliers_long : {y : List Float}
        → y ≡ multipliers_of (length kept) f.number f.lower f.upper f.diag
        (costs_of (length kept) n costs basics)
        → length y ≡ max_rows
    unfolding by_rows
    multipliers_long e = ap length e ∙ scratch_long (length kept) max_rows _ rows_most

    pub multipliers_now : (starts cols : List ℕ) (coeffs : List Float)
        → multipliers_of (length kept) f.number f.lower f.upper f.diag (costs_of (length kept) n costs basics)
        ≡ multipliers (priced_of n costs starts cols coeffs kept) (factored_now s f)
    multipliers_now starts cols coeffs =
        multipliers_are (priced_of n costs starts cols coeffs kept) s f exact.0 exact.1

-- ---- how it ends

-- the factor stored where there is a state to go on from
abbrev stored_in : Factor → Left → Left
stored_in f (on t) = on (factored_now t f)
stored_in f (off w v A B) = off w v A B

module _ (Q : Problem) (s : State) (f : Factor) {y : List Float} (e : y ≡ multipliers Q (factored_now s f)) {l : Left}
    (h : l ≡ after_own s (priced_if (priced_finite Q s y) Q s y)) where
  -- pricing reads neither eta columns nor factor
  stored : (b : Bool) → stored_in f (after_own s (priced_if b Q s y)) ≡ after_own s (priced_if b Q (factored_now s f) y)
  unfolding priced_by objective_of
  stored true = refl
  stored false = refl

  pub with_factor_holds : stored_in f l ≡ after_own s (priced Q (factored_now s f))
  unfolding priced priced_finite objective_of
  with_factor_holds =
      ap (stored_in f) h ∙ stored (priced_finite Q s y)
      ∙ ap (λ (z : List Float). after_own s (priced_if (priced_finite Q (factored_now s f) z) Q (factored_now s f) z)) e

-- the first start of the eta columns written, and the factor's arrays
pub stored_state : (N : List ℕ) (D : List Float) (F : List ℕ) (G : List Float) (t : Tally) (f : Factor) {A : List ℕ}
    {B : List Float} → A ≡ packed_numbers f F → B ≡ packed_coeffs f G
    → state_in (set N eta_starts_at 0) D A B
    (record {
      eta_count = 0;
      objective = t.objective;
      steps = t.steps;
      factored = true;
      factorings = t.factorings;
    })
    ≡ factored_now (state_in N D F G t) f
stored_state N D F G t f {A} {B} ea eb =
    ap (λ (w : Workspace). state_with w 0 t.objective t.steps (factored_of true t.factorings A B))
    (in_eta_starts (as_lent N D) (written eta_starts_at (eta_columns + 1) N 0 0 (omega arith))).is
    ∙ rw (ea, eb) refl

module _ (Q : Problem) (s : State) (o : Outcome Factor) (q : o ≡ factorize (m_of Q) (basis_now Q s)) where
  pub anew_wild : o ≡ non_finite
      → off NotFinite s.ws s.factor.numbers s.factor.coeffs ≡ after_own s (anew_of Q s)
  unfolding anew_of
  anew_wild h = rw (sym q ∙ h) refl

  pub anew_flat : o ≡ singular
      → off Singular s.ws s.factor.numbers s.factor.coeffs ≡ after_own s (anew_of Q s)
  unfolding anew_of
  anew_flat h = rw (sym q ∙ h) refl

  pub anew_on : (f : Factor) → o ≡ factored f → {l : Left} → l ≡ after_own s (priced Q (factored_now s f))
      → l ≡ after_own s (anew_of Q s)
  unfolding anew_of
  anew_on f h k = rw (sym q ∙ h) k

module _ (Q : Problem) (s : State) where
  abbrev by : Bool → Left
  by b =
      after_own s
      (then_priced Q
      (elim b [ true ↦ ready s | false ↦ or_halts (factorize (m_of Q) (basis_now Q s)) (factored_now s) ]))

  pub ends_as_it_is : s.eta_count ≡ 0 → {l : Left} → l ≡ after_own s (priced Q s) → l ≡ after_own s (repriced Q s)
  unfolding repriced settled
  ends_as_it_is h k = k ∙ ap by (sym (eq-eqb s.eta_count 0 h))

  pub ends_anew : ¬ (s.eta_count ≡ 0) → {l : Left} → l ≡ after_own s (anew_of Q s) → l ≡ after_own s (repriced Q s)
  unfolding repriced settled anew_of
  ends_anew h k = k ∙ ap by (sym (ne_eqb s.eta_count 0 h))
