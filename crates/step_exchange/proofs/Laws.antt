-- What the calls of an exchange ask, from a problem, a state and a column that fit, and the ways it ends. No contract cites
-- this file. Assumes nothing.
use mathlib.Core.Path.{◌≡◌, refl, sym, subst, ap, ◌∙◌}
use mathlib.Core.Bool.{Bool, true, false, ◌&&◌}
use mathlib.Core.List.{List, []}
use Prim.Native.Nat.{ℕ, ◌<◌, ◌≤◌}
use native.Mathlib.Omega.{arith}
use lib.ListN.{length}
use lib.Ieee.{Float}
use Rattle.doubles.specs.Num.{f1}
use Rattle.doubles.specs.Limits.{max_rows, max_columns, places, eta_columns, eta_entries}
use Rattle.doubles.specs.Lists.{◌#◌}
use Rattle.sparse.specs.Scattered.{Pat, Sv, sv, sv_of, blank, touched, put_at, Wf, Within, relisted, listed_finite}
use Rattle.lu_factor_rules.specs.Factor.{factorize}
use Rattle.rules.specs.Plan.{Problem, State, n_of, m_of}
use Rattle.rules.specs.Parts.{plan_of, problem, rowed}
use Rattle.rules.specs.Basis.{row_coeffs_of, helper_of, touch_at, combine, add_row, eta_fits, basis_after}
use Rattle.rules.specs.Pivot.{new_norm, numbers_finite, eta_finite, exchanged, refactored}
use Rattle.rules.specs.Step.{Outcome, moved, stopped, or_stop, or_factor, exchange}
use Rattle.rules.specs.Invariant.{FactorFits, Vector}
use Rattle.rules.specs.declared.Entering.{Entering}
use Rattle.rules.specs.declared.PivotInfo.TheVariants.{Exchange as Exchanges}
use Rattle.rules.specs.declared.Stop.TheVariants.{NotFinite}
use Rattle.rules.proofs.Vectors.{rows_places, columns_places, vector_blank, vector_put_at, vector_touch_at, vector_solve_etas_transp, relisted_vector}
use Rattle.rules.proofs.Vectors.{row_solve_vector, helper_solve_vector, row_vector, helper_vector}
use Rattle.basis_etas.specs.Store.{Readable}
use Rattle.basis_etas.proofs.Laws.{fits_readable}
use Rattle.basis_rows.specs.Lent.{RowsLent}
use Rattle.basis_rows.proofs.Parts.{fits_rows, vector_listed}
use Rattle.step_numbers.specs.Lent.{Listing}
use Rattle.step_numbers.proofs.Parts.{vector_listing}
use Rattle.step_store.specs.Lent.{Swaps}
use Rattle.cells.proofs.Parts.{bounds_of}
use Rattle.step_store.proofs.Parts.{fits_swaps, with_arrays, exchanged_part}
use Rattle.basis_solves.specs.Lent.{Transposed, RowSolve}
use Rattle.state.specs.Packed.{packed, state_in}
use Rattle.state.specs.declared.Tally.{Tally}
use Rattle.state.specs.declared.Exchange.{Exchange}
use Rattle.step_refactor.specs.Left.{Left, on, off, after, stepped}
use Rattle.step_refactor.specs.Lent.{Ready, Solved}
use Rattle.step_refactor.specs.Made.{made}
use Rattle.step_exchange.specs.Lent.{Inverse}
use Rattle.step_exchange.specs.Decided.{Decision, goes, ends, decision, decided, decided_by}
use Rattle.std.specs.Prelude.{Option, Some, None}

-- ---- what the calls ask
module _ {n : ℕ} {lowers uppers : List Float} {starts cols : List ℕ} {coeffs : List Float} {ops kept : List ℕ} {N : List ℕ} {D : List Float}
    {F : List ℕ} {G : List Float} {t : Tally} (rd : Ready n lowers uppers starts cols coeffs ops kept N D F G t) where
  abbrev P : Problem
  P = problem (plan_of n rd.rows rd.entries rd.budget rd.tolerance rd.costs lowers uppers starts cols coeffs ops rd.rhs) kept

  abbrev s : State
  s = state_in N D F G t

  abbrev rows_in : Problem
  rows_in = rowed n starts cols coeffs kept

  abbrev Starts : Sv → Type 0
  Starts y = Transposed (length kept) (packed N D).etas t.eta_count s.factor y

  starts_from : (y : Sv) → Vector (length kept) y → Starts y
  starts_from y a =
      let f = rd.state_fits in
      record {
        etas = fits_readable P rd.problem_fits s f;
        factor = f.factor;
        start = a;
        between = vector_solve_etas_transp P rd.problem_fits (packed N D).etas t.eta_count f.lengths.rows_long f.store y a;
      }

  rows_lent : RowsLent rows_in (length (packed N D).var_states)
  rows_lent = fits_rows P rd.problem_fits _ rd.state_fits.lengths.var_states_long

  pub inv_row_asks : (row : ℕ) → row < length kept → (row < places) × Starts (put_at blank row f1)
  inv_row_asks row h = (
    omega (arith, rows_places P rd.problem_fits),
    starts_from _ (vector_put_at blank row f1 (rows_places P rd.problem_fits) vector_blank h),
  )

  -- the row solve's result: what combining its rows asks, and solving it again
  module _ {row : ℕ} {y : List Float} {list : List ℕ} {count : ℕ} (h : row < length kept) (i : Inverse rows_in s row y list count) where
    inverse_vector : Vector (length kept) (sv y i.marks list count)
    inverse_vector = subst (Vector (length kept)) (sym i.is) (row_solve_vector P rd.problem_fits s rd.state_fits row h)

    pub inverse_listed : (count ≤ places) × Within places count list
    inverse_listed = vector_listed _ inverse_vector

    pub combine_asks : RowsLent rows_in (length (packed N D).var_states) × (length kept ≤ places) × (count ≤ places) × Within (length kept) count list
    combine_asks = (rows_lent, rows_places P rd.problem_fits, inverse_listed.0, record { inside = inverse_vector.places_below.below })

    pub tau_asks : Vector (length kept) (relisted (sv y [] list count)) × Readable (packed N D).etas t.eta_count × FactorFits (length kept) s.factor
    unfolding relisted
    tau_asks = (relisted_vector P rd.problem_fits _ inverse_vector, fits_readable P rd.problem_fits s rd.state_fits, rd.state_fits.factor)

  pub store_asks : (t.eta_count ≤ eta_columns) × ((packed N []).etas.starts # t.eta_count ≤ eta_entries)
  store_asks = (rd.state_fits.store.columns_fit, rd.state_fits.store.entries_fit)

  -- the row, and the row with the entering place touched
  module _ (row col : ℕ) (hc : col < n) where
    row_there : Vector n (row_coeffs_of rows_in s row)
    unfolding row_coeffs_of combine add_row
    row_there = row_vector P rd.problem_fits s row

    pub touch_asks : (r : Sv) → r ≡ row_coeffs_of rows_in s row → (col < places) × Wf places r.pat
    touch_asks r e =
        let v = subst (Vector n) (sym e) row_there in
        (omega (arith, columns_places P rd.problem_fits), v.good.wf)

    pub row_listing : (r : Sv) → r ≡ touch_at (row_coeffs_of rows_in s row) col → Listing max_columns r.pat.count r.pat.list
    row_listing r e =
        vector_listing r _
        (subst (Vector n) (sym e) (vector_touch_at (row_coeffs_of rows_in s row) col (columns_places P rd.problem_fits) row_there hc))
        rd.problem_fits.plan.columns_most

  module _ {values : List Float} {list : List ℕ} {count : ℕ} (cl : Solved (length kept) values list count) where
    pub listed_asks : (count ≤ places) × Within places count list
    listed_asks = vector_listed _ cl.vector

    pub column_listing : Listing max_rows count list
    column_listing = vector_listing _ _ cl.vector (omega (arith, rd.problem_fits.few, rd.problem_fits.plan.rows_most))

    pub helper_asks : RowSolve rows_in (length (packed N D).var_states) (packed N D).etas t.eta_count s.factor (relisted (sv values [] list count))
    unfolding relisted
    helper_asks =
        record {
          solve = starts_from _ (relisted_vector P rd.problem_fits _ cl.vector);
          rows = rows_lent;
          few = rows_places P rd.problem_fits;
          solved = helper_solve_vector P rd.problem_fits s rd.state_fits _ cl.vector;
        }

    pub helper_listing : (m : List Bool) (h : Sv) → h ≡ helper_of rows_in s (sv values m list count) → (h.pat.count ≤ places) × Within places h.pat.count h.pat.list
    unfolding helper_of combine add_row
    helper_listing m h e = vector_listed h (subst (Vector n) (sym e) (helper_vector P rd.problem_fits s (sv values m list count)))

  pub swap_asks : (col row : ℕ) → col < n → row < length kept → Swaps (bounds_of (stepped n lowers uppers starts cols coeffs ops kept)) N D col row
  swap_asks col row l h = fits_swaps P rd.problem_fits N D t rd.sized rd.state_fits col l row h

-- the row is what its row solve's result combines
pub row_of : (P : Problem) (s : State) (row : ℕ) {y : List Float} {list : List ℕ} {count : ℕ} (i : Inverse P s row y list count) (r : Sv)
    → r ≡ combine P s.ws.var_states (sv y i.marks list count) → r ≡ row_coeffs_of P s row
unfolding row_coeffs_of
row_of P s row i r e = e ∙ ap (combine P s.ws.var_states) i.is

-- a pattern that was touched, with the values beside it
pub touched_is : (v : List Float) (p q : Pat) (i : ℕ) (r : Sv) → sv_of v p ≡ r → q ≡ touched p i → sv_of v q ≡ touch_at r i
unfolding touch_at
touched_is v p q i r a b = ap (sv_of v) b ∙ ap (λ (t : Sv). touch_at t i) a

-- ---- what is decided
module _ (P : Problem) (s : State) (e : Entering) (c : Sv) (x : Exchange) (r h : Sv) (er : r ≡ touch_at (row_coeffs_of P s x.row) e.col)
    (eh : h ≡ helper_of P s c) (b : Bool)
    (eb : b ≡ (listed_finite r && listed_finite h && numbers_finite P s e c r h x.value x.diff x.row x.pivot x.leaving)) where
  tested : decision b r h.vals ≡ decided P s e c x
  unfolding decided
  tested = rw (← er, ← eh, ← eb) refl

  pub decided_bad : b ≡ false → ends ≡ decided P s e c x
  unfolding decision
  decided_bad f = rw f at tested

  pub decided_goes : b ≡ true → goes r h.vals ≡ decided P s e c x
  unfolding decision
  decided_goes f = rw f at tested

-- one that goes on has the row
goes_row : {r : Sv} {h : List Float} (b : Bool) (u : Sv) (v : List Float) → goes r h ≡ decision b u v → r ≡ u
unfolding decision
goes_row false u v q = absurd (let z : ◌≡◌ {A = ℕ} 0 1 = cc in omega arith)
goes_row true u v q = cc

-- ---- how it ends
module _ (Q : Problem) (s : State) (e : Entering) (c : Sv) (x : Exchange) where
  abbrev pub rows_of : Problem
  rows_of = rowed (n_of Q) Q.plan.starts Q.plan.cols Q.plan.coeffs Q.kept

  abbrev whole : Outcome
  whole = exchange Q s e c x.value x.diff x.row x.pivot x.leaving

  abbrev info : Exchange → State → Outcome
  info x t = moved (Exchanges x.value x.diff x.row x.pivot x.leaving) t

  abbrev stored_by_holds : Bool → Sv → Sv → Outcome
  stored_by_holds b r h =
      elim b [
        | true ↦ or_stop (eta_finite c x.row x.pivot) NotFinite
            (info x (exchanged Q s e c r h x.value x.diff x.row x.pivot x.leaving))
        | false ↦ or_factor (factorize (m_of Q) (basis_after Q s e.col x.row))
            (λ f. info x (refactored Q s e c r h x.value x.diff x.row x.pivot x.leaving f))
      ]

  abbrev by_decision : Decision → Outcome
  by_decision (goes r h) = stored_by_holds (eta_fits s c.pat.count) r (sv_of h blank.pat)
  by_decision ends = stopped NotFinite

  -- of the helper its values alone are stored
  by_tests : (b : Bool) (u v : Sv) → or_stop b NotFinite (stored_by_holds (eta_fits s c.pat.count) u v) ≡ by_decision (decision b u v.vals)
  unfolding decision exchanged refactored new_norm
  by_tests false u v = refl
  by_tests true u v = refl

  is_decided : whole ≡ by_decision (decided rows_of s e c x)
  unfolding exchange decided row_coeffs_of helper_of combine add_row numbers_finite
  is_decided = by_tests _ _ _

  -- what the code decided, with the vectors as it left them
  module _ (d : Option ℕ) (v : List Float) (m : List Bool) (l : List ℕ) (h : List Float) (q : decided_by d v m l h ≡ decided rows_of s e c x) where
    pub exchange_ends : d ≡ None → off NotFinite s.ws s.factor.numbers s.factor.coeffs ≡ after s whole
    unfolding after
    exchange_ends f = let g : ends ≡ decided rows_of s e c x = rw f at q in sym (ap (after s) (is_decided ∙ ap by_decision (sym g)))

    module _ (k : ℕ) (f : d ≡ Some k) where
      gone : goes (sv v m l k) h ≡ decided rows_of s e c x
      gone = rw f at q

      pub goes_asks : sv v m l k ≡ touch_at (row_coeffs_of rows_of s x.row) e.col
      unfolding decided
      goes_asks = goes_row _ _ _ gone

      by_store : whole ≡ stored_by_holds (eta_fits s c.pat.count) (sv v m l k) (sv_of h blank.pat)
      by_store = is_decided ∙ ap by_decision (sym gone)

      pub exchange_factors : eta_fits s c.pat.count ≡ false → (o : Left) → o ≡ made Q s e c (sv v m l k) (sv_of h blank.pat) x
          → o ≡ after s whole
      unfolding made
      exchange_factors z o eo = eo ∙ sym (ap (after s) (by_store ∙ ap (λ b. stored_by_holds b (sv v m l k) (sv_of h blank.pat)) z))

      module _ (z : eta_fits s c.pat.count ≡ true) where
        with_column_holds : whole ≡ stored_by_holds true (sv v m l k) (sv_of h blank.pat)
        with_column_holds = by_store ∙ ap (λ b. stored_by_holds b (sv v m l k) (sv_of h blank.pat)) z

        pub exchange_unsound : eta_finite c x.row x.pivot ≡ false → off NotFinite s.ws s.factor.numbers s.factor.coeffs ≡ after s whole
        unfolding after
        exchange_unsound g = rw (with_column_holds, g) refl

        pub exchange_goes : eta_finite c x.row x.pivot ≡ true → {u : State}
            → u ≡ exchanged (bounds_of Q) (with_arrays [] [] s) e c (sv v m l k) (sv_of h blank.pat) x.value x.diff x.row x.pivot x.leaving
            → on (with_arrays s.factor.numbers s.factor.coeffs u) ≡ after s whole
        unfolding after
        exchange_goes g {u} eu = rw (with_column_holds, g) (ap on (exchanged_part Q s e c (sv v m l k) (sv_of h blank.pat) x {u = u} eu))
