-- What the calls of a dual step ask, from a problem and a state that fit, the ways it ends, and what a run uses. No contract cites
-- this file. Assumes nothing.
use mathlib.Core.Path.{◌≡◌, refl, sym, subst, ap, ◌∙◌}
use mathlib.Core.Bool.{Bool, true, false}
use mathlib.Core.List.{List}
use Prim.Native.Nat.{ℕ, suc, ◌<◌, ◌≤◌}
use native.Mathlib.Omega.{arith}
use lib.ListN.{length}
use lib.Ieee.{Float}
use Rattle.doubles.specs.Limits.{places}
use Rattle.doubles.specs.Lists.{◌#◌}
use Rattle.sparse.specs.Scattered.{Sv, sv, Within, listed_finite}
use Rattle.rules.specs.Plan.{Problem, State, n_of, m_of, column, var_min, var_max}
use Rattle.rules.specs.Parts.{plan_of, problem, rowed}
use Rattle.rules.specs.Basis.{column_coeffs, inv_row, row_coeffs_of, tau_of, helper_of, combine, add_row, touch_at}
use Rattle.rules.specs.Pivot.{flags_at, numbers_finite, exchanged, refactored}
use Rattle.rules.specs.DualRow.{choose_row}
use Rattle.rules.specs.DualRatio.{leaving_rises, eligible, test_by, dual_ratio_by}
use Rattle.rules.specs.DualChoices.{DualGivesBy, exchanges}
use Rattle.rules.specs.Step.{Outcome, moved, stopped, or_stop, exchange, both_norms, dual_pivot, dual_step_by, dual_step}
use Rattle.rules.specs.Invariant.{ProblemFits, Fits, Vector}
use Rattle.rules.specs.declared.NonBasicVarState.{NonBasicVarState}
use Rattle.rules.specs.declared.Entering.{Entering}
use Rattle.rules.specs.declared.LeavingVar.{LeavingVar}
use Rattle.std.specs.Prelude.{Some}
use Rattle.rules.specs.declared.DualRatio.{DualRatio}
use Rattle.rules.specs.declared.DualRatio.TheVariants.{Exchange as Exchanging, Nothing, NotFinite}
use Rattle.rules.specs.declared.Stop.{Stop}
use Rattle.rules.specs.declared.Stop.TheVariants.{Infeasible, NotFinite as Stop-as-NotFinite}
use Rattle.rules.proofs.Vectors.{row_vector}
use Rattle.rules.proofs.DualLeaving.{leaves_below}
use Rattle.rules.proofs.DualColumn.{ratio_exactly}
use Rattle.rules.proofs.Keeps.{dual_fits}
use Rattle.rules.proofs.Steps.{dual_counts}
use Rattle.basis_rows.proofs.Parts.{vector_listed}
use Rattle.step_prices.specs.Lent.{Pricing}
use Rattle.step_prices.proofs.Fits.{pricing}
use Rattle.state.specs.Packed.{packed, state_in}
use Rattle.state.specs.declared.Tally.{Tally}
use Rattle.state.specs.declared.Exchange.{Exchange}
use Rattle.step_refactor.specs.Left.{Left, on, off, after, stepped}
use Rattle.step_refactor.specs.Lent.{Ready}
use Rattle.step.specs.Found.{exchange_of}
use Rattle.step.proofs.Laws.{stepped_of, moves_on}
use Rattle.step_dual.specs.Found.{Found, enters, ends, by_dual, found, found_by, entered}
use Rattle.step_dual.specs.declared.Decided.{Decided}
use Rattle.step_dual.specs.declared.Decided.TheVariants.{Enters, Stops}

-- ---- what the calls ask
module _ {n : ℕ} {lowers uppers : List Float} {starts cols : List ℕ} {coeffs : List Float} {ops kept : List ℕ} {N : List ℕ} {D : List Float}
    {F : List ℕ} {G : List Float} {t : Tally} (rd : Ready n lowers uppers starts cols coeffs ops kept N D F G t) where
  abbrev P : Problem
  P = problem (plan_of n rd.rows rd.entries rd.budget rd.tolerance rd.costs lowers uppers starts cols coeffs ops rd.rhs) kept

  abbrev s : State
  s = state_in N D F G t

  abbrev rows_in : Problem
  rows_in = rowed n starts cols coeffs kept

  -- the row is in order
  row_there : (row : ℕ) (r : Sv) → r ≡ row_coeffs_of rows_in s row → Vector n r
  unfolding row_coeffs_of combine add_row
  row_there row r e = subst (Vector n) (sym e) (row_vector P rd.problem_fits s row)

  pub listed_asks : (row : ℕ) (r : Sv) → r ≡ row_coeffs_of rows_in s row → (r.pat.count ≤ places) × Within places r.pat.count r.pat.list
  listed_asks row r e = vector_listed r (row_there row r e)

  pub ratio_asks : (l : LeavingVar) → l.row < length kept → (r : Sv) → r ≡ row_coeffs_of rows_in s l.row
      → Pricing (packed N D) l r.pat.list r.pat.count
  ratio_asks l h r e = pricing rd.problem_fits rd.state_fits h (row_there l.row r e)

  -- the entering column is a column
  gives_below : {test : NonBasicVarState → Float → Bool} {Says : NonBasicVarState → Float → Type 0} (l : LeavingVar) (r : Sv)
      → r ≡ row_coeffs_of rows_in s l.row → {e : Entering} {value diff pivot : Float}
      → DualGivesBy s.ws l r test Says (Exchanging e value diff pivot) → e.col < n
  gives_below l r q (exchanges sound k w) = (row_there l.row r q).places_below.below k w.inside

  found_by_holds : (l : LeavingVar) (y : Sv) (b : Bool) (x : DualRatio) {u : Sv} {e : Entering} {z : Exchange}
      → enters u e z ≡ elim b [ true ↦ by_dual l y x | false ↦ ends Stop-as-NotFinite ]
      → (u ≡ y) × (z.row ≡ l.row) × ((value diff pivot : Float) × (x ≡ Exchanging e value diff pivot))
  unfolding by_dual
  found_by_holds l y false x q = absurd (let z : ◌≡◌ {A = ℕ} 0 1 = cc in omega arith)
  found_by_holds l y true NotFinite q = absurd (let z : ◌≡◌ {A = ℕ} 0 1 = cc in omega arith)
  found_by_holds l y true Nothing q = absurd (let z : ◌≡◌ {A = ℕ} 0 1 = cc in omega arith)
  found_by_holds l y true (Exchanging f value diff pivot) {z = z} q =
      let a : exchange_of value diff l.row pivot l.value ≡ z = cc in
      (cc, sym (ap (λ (z : Exchange). z.row) a), (value, diff, pivot, cc))

  -- what a column that was found tells
  pub found_enters : (still : Bool) (l : LeavingVar) (y : Sv) (e : Entering) (x : Exchange) → enters y e x ≡ found still rows_in s l
      → (y ≡ inv_row rows_in s l.row) × (x.row ≡ l.row) × (e.col < n)
  unfolding found
  found_enters still l y e x q =
      let r = row_coeffs_of rows_in s l.row in
      let test = test_by still (leaving_rises s.ws l) in
      let z = found_by_holds l (inv_row rows_in s l.row) (listed_finite r) (dual_ratio_by test s.ws l r) q in
      let g = (ratio_exactly s.ws l r {test = test} {Says = λ f a. test f a ≡ true} (λ f a. (λ h. h, λ h. h)) _).0 z.2.3 in
      (z.0, z.1, gives_below l r refl g)

-- ---- what is decided
module _ (still : Bool) (P : Problem) (s : State) (l : LeavingVar) (y r : Sv) (ey : y ≡ inv_row P s l.row) (er : r ≡ row_coeffs_of P s l.row) where
  abbrev ratio_of : Sv → DualRatio
  ratio_of v = dual_ratio_by (test_by still (leaving_rises s.ws l)) s.ws l v

  abbrev from : Sv → Sv → Found
  from u v = elim (listed_finite v) [ true ↦ by_dual l u (ratio_of v) | false ↦ ends Stop-as-NotFinite ]

  is_from : from y r ≡ found still P s l
  unfolding found
  is_from = ap (λ (u : Sv). from u r) ey ∙ ap (from (inv_row P s l.row)) er

  pub found_bad : listed_finite r ≡ false → ends Stop-as-NotFinite ≡ found still P s l
  found_bad f = let g : ends Stop-as-NotFinite ≡ from y r = rw (f, from) in g ∙ is_from

  pub found_ratio : listed_finite r ≡ true → (x : DualRatio) → x ≡ ratio_of r → by_dual l y x ≡ found still P s l
  found_ratio f x ex =
      let h : by_dual l y (ratio_of r) ≡ from y r = rw (f, from) in
      ap (by_dual l y) ex ∙ h ∙ is_from

-- ---- the ways a dual step ends
module _ (still : Bool) (Q : Problem) (s : State) (l : LeavingVar) where
  abbrev taken : Outcome
  taken = dual_step_by (test_by still (leaving_rises s.ws l)) Q s l

  abbrev rows_of : Problem
  rows_of = rowed (n_of Q) Q.plan.starts Q.plan.cols Q.plan.coeffs Q.kept

  abbrev by_found : Found → Outcome
  by_found (enters y e x) = entered Q s e x
  by_found (ends w) = stopped w

  by_tests : (y : Sv) (b : Bool) (x : DualRatio)
      → or_stop b Stop-as-NotFinite (elim x [
        | NotFinite ↦ stopped Stop-as-NotFinite
        | Nothing ↦ stopped (Infeasible l.row)
        | Exchanging e value diff coeff ↦ dual_pivot Q s l e value diff coeff
      ])
      ≡ by_found (elim b [ true ↦ by_dual l y x | false ↦ ends Stop-as-NotFinite ])
  unfolding by_dual dual_pivot entered
  by_tests y false x = refl
  by_tests y true NotFinite = refl
  by_tests y true Nothing = refl
  by_tests y true (Exchanging e value diff coeff) = refl

  is_found : taken ≡ by_found (found still rows_of s l)
  unfolding dual_step_by found row_coeffs_of combine add_row
  is_found = let r = row_coeffs_of Q s l.row in by_tests (inv_row Q s l.row) (listed_finite r) (dual_ratio_by (test_by still (leaving_rises s.ws l)) s.ws l r)

  ended_by : (f : Found) → f ≡ found still rows_of s l → after s (by_found f) ≡ after s taken
  ended_by f q = sym (ap (after s) (is_found ∙ ap by_found (sym q)))

  -- what the code decided, with the vector as it left it
  module _ (d : Decided) (v : List Float) (m : List Bool) (u : List ℕ) (q : found_by d v m u ≡ found still rows_of s l) where
    pub dual_stops : (w : Stop) → d ≡ Stops w → off w s.ws s.factor.numbers s.factor.coeffs ≡ after s taken
    unfolding after
    dual_stops w f = ended_by (ends w) (rw f at q)

    module _ (k : ℕ) (e : Entering) (x : Exchange) (f : d ≡ Enters k e x) where
      pub enters_found : enters (sv v m u k) e x ≡ found still rows_of s l
      enters_found = rw f at q

      pub dual_enters : (o : Left) → o ≡ after s (entered Q s e x) → o ≡ after s taken
      dual_enters o h = h ∙ ended_by (enters (sv v m u k) e x) enters_found

-- the column solve
module _ (Q : Problem) (s : State) (e : Entering) (x : Exchange) (c : Sv) (ec : c ≡ column_coeffs Q s (s.ws.nb_vars # e.col)) where
  abbrev by : Sv → Outcome
  by k = or_stop (listed_finite k) Stop-as-NotFinite (both_norms Q s e (touch_at k x.row) x.value x.diff x.row x.pivot x.leaving)

  is_by : by c ≡ entered Q s e x
  unfolding entered
  is_by = ap by ec

  pub entered_bad : listed_finite c ≡ false → off Stop-as-NotFinite s.ws s.factor.numbers s.factor.coeffs ≡ after s (entered Q s e x)
  unfolding after
  entered_bad f = let g : stopped Stop-as-NotFinite ≡ by c = rw (f, by) in ap (after s) (g ∙ is_by)

  pub entered_goes : listed_finite c ≡ true → (k : Sv) → k ≡ touch_at c x.row → (o : Left)
      → o ≡ after s (both_norms Q s e k x.value x.diff x.row x.pivot x.leaving) → o ≡ after s (entered Q s e x)
  entered_goes f k ek o h =
      let g : both_norms Q s e (touch_at c x.row) x.value x.diff x.row x.pivot x.leaving ≡ by c = rw (f, by) in
      h ∙ ap (λ (j : Sv). after s (both_norms Q s e j x.value x.diff x.row x.pivot x.leaving)) ek ∙ ap (after s) (g ∙ is_by)

-- ---- what a run uses, and a fix
module _ (test : NonBasicVarState → Float → Bool) (P : Problem) (s : State) (l : LeavingVar) where
  pivot_part : (e : Entering) (value diff coeff : Float) → dual_pivot P s l e value diff coeff ≡ dual_pivot (stepped_of P) s l e value diff coeff
  unfolding dual_pivot both_norms tau_of exchange numbers_finite exchanged refactored flags_at var_min var_max column_coeffs row_coeffs_of helper_of combine add_row column
  pivot_part e value diff coeff = refl

  abbrev ratio_outcome : Problem → DualRatio → Outcome
  ratio_outcome A x = elim x [
    | NotFinite ↦ stopped Stop-as-NotFinite
    | Nothing ↦ stopped (Infeasible l.row)
    | Exchanging e value diff coeff ↦ dual_pivot A s l e value diff coeff
  ]

  by_ratio_holds : (x : DualRatio) → ratio_outcome P x ≡ ratio_outcome (stepped_of P) x
  by_ratio_holds NotFinite = refl
  by_ratio_holds Nothing = refl
  by_ratio_holds (Exchanging e value diff coeff) = pivot_part e value diff coeff

  -- a dual step reads of the problem what it is lent
  pub dual_step_part : dual_step_by test P s l ≡ dual_step_by test (stepped_of P) s l
  unfolding dual_step_by row_coeffs_of combine add_row
  dual_step_part = let r = row_coeffs_of P s l.row in ap (or_stop (listed_finite r) Stop-as-NotFinite) (by_ratio_holds (dual_ratio_by test s.ws l r))

-- the state after a dual step fits, and one more step is counted
pub dual_moved_fits : (P : Problem) → ProblemFits P → (s : State) → Fits P s → (l : LeavingVar) → choose_row P s.ws ≡ Some l → (t : State)
    → on t ≡ after s (dual_step (stepped_of P) s l) → Fits P t × (t.steps ≡ suc s.steps)
dual_moved_fits P f s g l leaves t q =
    let m = moves_on s (dual_step (stepped_of P) s l) t q in
    let o : dual_step P s l ≡ moved m.0 t = dual_step_part (eligible (leaving_rises s.ws l)) P s l ∙ m.1 in
    (dual_fits P f s g l (leaves_below P s.ws l leaves) m.0 t o, dual_counts P s l m.0 t o)
