-- What the calls of a refactoring ask, from a problem, a state and a column that fit, and the ways it ends. No contract
-- cites this file. Assumes nothing.
use mathlib.Core.Path.{◌≡◌, refl, sym, subst, ap, fun_ext, ◌∙◌}
use mathlib.Core.List.{List, []}
use Prim.Native.Nat.{ℕ, ◌+◌, ◌<◌, ◌≤◌}
use native.Mathlib.Omega.{arith}
use lib.ListN.{length, set}
use lib.Ieee.{Float}
use Rattle.doubles.specs.Limits.{max_rows, max_budget}
use Rattle.doubles.specs.Lists.{◌#◌}
use Rattle.sparse.specs.Scattered.{Sv}
use Rattle.lu_factor_rules.specs.Factor.{Outcome, factored, non_finite, singular, Factor, factorize}
use Rattle.lu_factor_rules.specs.Packed.{packed_numbers, packed_coeffs}
use Rattle.lu_factor_rules.specs.Ready.{Vector as Ordered}
use Rattle.lu_factor_rules.proofs.Shaped.{factor_shaped}
use Rattle.lu_apply.proofs.Factors.{lower_read, upper_read}
use Rattle.lu_transpose.specs.Read.{Read}
use Rattle.rules.specs.Plan.{Problem, State, m_of, column}
use Rattle.rules.specs.Parts.{plan_of, problem, rowed}
use Rattle.rules.specs.Basis.{basis_after}
use Rattle.rules.specs.declared.Entering.{Entering}
use Rattle.rules.specs.declared.Stop.TheVariants.{NotFinite, Singular}
use Rattle.rules.proofs.Vectors.{rows_places}
use Rattle.rules.proofs.Refactored.{basis_variable, basis_vectors}
use Rattle.cells.proofs.Parts.{bounds_of}
use Rattle.basis_columns.specs.Columns.{ByColumns}
use Rattle.basis_columns.specs.Loading.{ColumnLent}
use Rattle.basis_columns.proofs.Loading.{column_is}
use Rattle.basis_factor.specs.Basis.{Basis, columns_of}
use Rattle.step_numbers.specs.Lent.{Listing}
use Rattle.step_numbers.proofs.Parts.{vector_listing}
use Rattle.step_store.specs.Lent.{Swaps}
use Rattle.step_store.specs.Halves.{emptied}
use Rattle.step_store.proofs.Parts.{fits_swaps, with_arrays, refactored_part}
use Rattle.state.specs.Packed.{packed, state_in}
use Rattle.state.specs.declared.Tally.{Tally}
use Rattle.state.specs.declared.Exchange.{Exchange}
use Rattle.step_refactor.specs.Left.{on, off, after, stepped}
use Rattle.step_refactor.specs.Made.{made}
use Rattle.step_refactor.specs.Lent.{Ready, ReadyBy, Solved}

-- ---- what the calls ask
module _ {n : ℕ} {lowers uppers : List Float} {ops kept S R : List ℕ} {X : List Float} {N : List ℕ} {D : List Float} {F : List ℕ} {G : List Float}
    {t : Tally} (rb : ReadyBy n lowers uppers ops kept S R X N D F G t) where
  abbrev rd : Ready n lowers uppers rb.starts rb.cols rb.coeffs ops kept N D F G t
  rd = rb.ready

  abbrev P : Problem
  P = problem (plan_of n rd.rows rd.entries rd.budget rd.tolerance rd.costs lowers uppers rb.starts rb.cols rb.coeffs ops rd.rhs) kept

  abbrev s : State
  s = state_in N D F G t

  pub rows_most : length kept ≤ max_rows
  rows_most = omega (arith, rd.problem_fits.few, rd.problem_fits.plan)

  pub column_listing : {values : List Float} {list : List ℕ} {count : ℕ} → Solved (length kept) values list count
      → Listing max_rows count list
  column_listing cl = vector_listing _ _ cl.vector rows_most

  -- a variable's column is lent
  pub column_lent : (v : ℕ) → v < n + length kept → ColumnLent S R X n v
  column_lent v l =
      let m = rb.by_columns in
      let few = rows_places P rd.problem_fits in
      record {
        starts_long = λ h. omega (arith, rb.starts_long);
        rises = λ h. (m.column v h).rises;
        rows_long = λ h. omega (arith, m.rows_long, (m.column v h).ends);
        coeffs_long = λ h. omega (arith, m.coeffs_long, (m.column v h).ends);
        row = λ h k a b. omega (arith, (m.column v h).row k a b);
        own = λ h. omega arith;
      }

  module _ (col row : ℕ) (hc : col < n) (hr : row < length kept) where
    abbrev basis : List ℕ
    basis = set (packed N D).basic_vars row ((packed N D).nb_vars # col)

    pub factorings_asks : t.factorings < max_budget
    factorings_asks = omega (arith, rd.state_fits.factorings, rd.budget_left)

    pub swap_asks : Swaps (bounds_of (stepped n lowers uppers rb.starts rb.cols rb.coeffs ops kept)) N D col row
    swap_asks = fits_swaps P rd.problem_fits N D t rd.sized rd.state_fits col hc row hr

    variable : (i : ℕ) → i < length kept → basis # i < n + length kept
    variable i h = basis_variable P rd.problem_fits s rd.state_fits col row hc hr i h

    -- the columns of the new basis, for any rows that the columns are those of
    pub columns_are : (starts cols : List ℕ) (coeffs : List Float) → ByColumns (rowed n starts cols coeffs kept) S R X
        → (i : ℕ) → columns_of S R X n basis i ≡ basis_after (stepped n lowers uppers starts cols coeffs ops kept) s col row i
    unfolding column
    columns_are starts cols coeffs m i = column_is S R X n (basis # i) (rowed n starts cols coeffs kept) refl m

    pub factor_is : (starts cols : List ℕ) (coeffs : List Float) → ByColumns (rowed n starts cols coeffs kept) S R X
        → factorize (length kept) (columns_of S R X n basis)
        ≡ factorize (length kept) (basis_after (stepped n lowers uppers starts cols coeffs ops kept) s col row)
    factor_is starts cols coeffs m = ap (factorize (length kept)) (fun_ext (columns_are starts cols coeffs m))

    pub basis_asks : Basis (length kept) S R X n basis
    unfolding column
    basis_asks =
        record {
          lent = λ i h. column_lent (basis # i) (variable i h);
          vector = λ i h. subst (Ordered (length kept)) (sym (columns_are rb.starts rb.cols rb.coeffs rb.by_columns i))
              (basis_vectors P rd.problem_fits s rd.state_fits col row hc hr i h);
        }

    -- L and U of the new basis can be transposed
    module _ {f : Factor} (q : factored f ≡ factorize (length kept) (columns_of S R X n basis)) where
      pub read_lower : Read (length kept) f.lower
      read_lower = lower_read (factor_shaped (columns_of S R X n basis) basis_asks.vector rows_most q)

      pub read_upper : Read (length kept) f.upper
      read_upper = upper_read (factor_shaped (columns_of S R X n basis) basis_asks.vector rows_most q)

-- ---- how it ends
module _ (Q : Problem) (s : State) (e : Entering) (c rowSv helper : Sv) (x : Exchange) (o : Outcome Factor)
    (q : o ≡ factorize (m_of Q) (basis_after Q s e.col x.row)) where
  pub made_wild : o ≡ non_finite → off NotFinite s.ws s.factor.numbers s.factor.coeffs ≡ made Q s e c rowSv helper x
  unfolding made after
  made_wild h = rw (sym q ∙ h) refl

  pub made_flat : o ≡ singular → off Singular s.ws s.factor.numbers s.factor.coeffs ≡ made Q s e c rowSv helper x
  unfolding made after
  made_flat h = rw (sym q ∙ h) refl

  pub made_on : (f : Factor) → o ≡ factored f → {u : State} → u ≡ emptied (bounds_of Q) (with_arrays [] [] s) e c rowSv helper x
      → {A : List ℕ} {B : List Float} → A ≡ packed_numbers f s.factor.numbers → B ≡ packed_coeffs f s.factor.coeffs
      → on (with_arrays A B u) ≡ made Q s e c rowSv helper x
  unfolding made after
  made_on f h {u} eu ea eb =
      rw (sym q ∙ h, ea, eb) (ap on (refactored_part Q s e c rowSv helper x {u = u} f eu))
