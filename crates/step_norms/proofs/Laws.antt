-- How an exchange with both kinds of norm ends: what was tested, the exchange, and the store behind it. No contract cites
-- this file. Assumes nothing.
use mathlib.Core.Path.{◌≡◌, refl, sym, subst, ap, ◌∙◌}
use mathlib.Core.Bool.{Bool, true, false, ◌&&◌}
use mathlib.Core.List.{List}
use Prim.Native.Nat.{ℕ, ◌≤◌}
use native.Mathlib.Omega.{arith}
use lib.Ieee.{Float}
use Rattle.doubles.specs.Limits.{places}
use Rattle.sparse.specs.Scattered.{Pat, Sv, sv_of, Good, Within, relisted, listed_finite, sq_norm}
use Rattle.sparse.proofs.Laws.{wf_listed}
use Rattle.lu_factor_rules.specs.Factor.{Outcome as Factoring, factored, non_finite, singular, Factor, factorize}
use Rattle.rules.specs.Plan.{Problem, Workspace, State, m_of}
use Rattle.rules.specs.Parts.{state_with}
use Rattle.rules.specs.Basis.{inv_row, row_coeffs_of, helper_of, tau_of, touch_at, eta_fits, basis_after}
use Rattle.rules.specs.Pivot.{stored, stores_finite, numbers_finite, new_dual_norm, eta_finite, exchanged, refactored}
use Rattle.rules.specs.Step.{Outcome, moved, stopped, or_stop, or_factor, exchange, both_norms, norms_moved, state_with_dual_norms, outcome_with_dual_norms}
use Rattle.rules.specs.Invariant.{FactorFits, Vector}
use Rattle.rules.specs.declared.Entering.{Entering}
use Rattle.rules.specs.declared.PivotInfo.{PivotInfo}
use Rattle.rules.specs.declared.PivotInfo.TheVariants.{Exchange as Exchanges}
use Rattle.rules.specs.declared.Stop.{Stop}
use Rattle.rules.specs.declared.Stop.TheVariants.{NotFinite}
use Rattle.step_numbers.specs.New.{norm_at}
use Rattle.step_numbers.proofs.Laws.{dual_norm_is}
use Rattle.basis_etas.specs.Store.{Readable}
use Rattle.basis_solves.proofs.Laws.{good_tau}
use Rattle.state.specs.Packed.{packed, state_in}
use Rattle.state.specs.declared.Tally.{Tally}
use Rattle.state.specs.declared.Exchange.{Exchange}
use Rattle.step_refactor.specs.Left.{on, off, after, left_by}
use Rattle.std.specs.Prelude.{Result, Ok, Err}
use Rattle.step_norms.specs.Tested.{Tested, tested, tested_by, dual_stored}

-- ---- what is tested: tau as the code leaves it, and its answer
module _ (P : Problem) (s : State) (c : Sv) (x : Exchange) (y t : Sv) (et : t ≡ tau_of P s y) where
  pub tested_by_holds : (b : Bool) → b ≡ (listed_finite t && stores_finite c (new_dual_norm s.ws c x.row x.pivot (sq_norm y) t))
      → tested_by b t.vals ≡ tested P s c x y
  unfolding tested
  tested_by_holds b eb =
      ap (λ (z : Bool). tested_by z t.vals) eb
      ∙ ap (λ (z : Sv). tested_by (listed_finite z && stores_finite c (new_dual_norm s.ws c x.row x.pivot (sq_norm y) z)) z.vals) et

  pub norms_tested : (sq : Float) → sq ≡ sq_norm y → (b : Bool) → b ≡ stores_finite c (norm_at x.row sq x.pivot s.ws.dual_norms c.vals t.vals)
      → b ≡ stores_finite c (new_dual_norm s.ws c x.row x.pivot (sq_norm y) t)
  norms_tested sq es b eb =
      eb ∙ ap (stores_finite c) (dual_norm_is s.ws x.pivot sq c x.row t)
      ∙ ap (λ (z : Float). stores_finite c (new_dual_norm s.ws c x.row x.pivot z t)) es

-- what the test of tau's entries asks
pub tau_listed : (P : Problem) (s : State) (y : Sv) → Vector (m_of P) (relisted y) × Readable s.ws.etas s.eta_count × FactorFits (m_of P) s.factor
    → (t : Sv) → t ≡ tau_of P s y → (t.pat.count ≤ places) × Within places t.pat.count t.pat.list
tau_listed P s y h t et =
    let g : Good places t = subst (Good places) (sym et) (good_tau P s h.2 h.1 y h.0) in
    (g.wf.within, record { inside = wf_listed t.pat g.wf })

-- ---- the exchange itself carries the dual norms along: as a record, so that arguments are inferred
record Carried (s : State) (o : Outcome) : Type 0 where
  norms : {u : State} → on u ≡ after s o → u.ws.dual_norms ≡ s.ws.dual_norms

module _ {s : State} where
  carried_moved : (i : PivotInfo) (t : State) → t.ws.dual_norms ≡ s.ws.dual_norms → Carried s (moved i t)
  unfolding after
  carried_moved i t h = record { norms = λ {u} q. let z : u ≡ t = cc in ap (λ (v : State). v.ws.dual_norms) z ∙ h }

  carried_stopped : (w : Stop) → Carried s (stopped w)
  unfolding after
  carried_stopped w = record { norms = λ {u} q. absurd (let z : ◌≡◌ {A = ℕ} 0 1 = cc in omega arith) }

  carried_or : (b : Bool) (w : Stop) (o : Outcome) → Carried s o → Carried s (or_stop b w o)
  carried_or true w o h = h
  carried_or false w o h = carried_stopped w

  carried_factor : (x : Factoring Factor) (go : Factor → Outcome) → ((f : Factor) → Carried s (go f)) → Carried s (or_factor x go)
  carried_factor (factored f) go h = h f
  carried_factor non_finite go h = carried_stopped _
  carried_factor singular go h = carried_stopped _

  carried_either : (b : Bool) (o u : Outcome) → Carried s o → Carried s u → Carried s (elim b [ true ↦ o | false ↦ u ])
  carried_either true o u h k = h
  carried_either false o u h k = k

exchange_carries : (Q : Problem) (s : State) (e : Entering) (c : Sv) (value diff : Float) (row : ℕ) (pivot leaving : Float)
    → Carried s (exchange Q s e c value diff row pivot leaving)
unfolding exchange exchanged refactored
exchange_carries Q s e c value diff row pivot leaving =
    let r = touch_at (row_coeffs_of Q s row) e.col in
    let h = helper_of Q s c in
    let i = Exchanges value diff row pivot leaving in
    let with-eta = moved i (exchanged Q s e c r h value diff row pivot leaving) in
    let with_factor_holds : Factor → Outcome = λ f. moved i (refactored Q s e c r h value diff row pivot leaving f) in
    let basis = factorize (m_of Q) (basis_after Q s e.col row) in
    carried_or (listed_finite r && listed_finite h && numbers_finite Q s e c r h value diff row pivot leaving) NotFinite
    (elim (eta_fits s c.pat.count) [ true ↦ or_stop (eta_finite c row pivot) NotFinite with-eta | false ↦ or_factor basis with_factor_holds ])
    (carried_either (eta_fits s c.pat.count) (or_stop (eta_finite c row pivot) NotFinite with-eta) (or_factor basis with_factor_holds)
    (carried_or (eta_finite c row pivot) NotFinite with-eta (carried_moved i (exchanged Q s e c r h value diff row pivot leaving) refl))
    (carried_factor basis with_factor_holds (λ f. carried_moved i (refactored Q s e c r h value diff row pivot leaving f) refl)))

-- ---- an outcome with other dual norms
module _ (s : State) (l : List Float) where
  stop_by : (o : Outcome) {w : Stop} {x : Workspace} {F : List ℕ} {G : List Float} → off w x F G ≡ after s o
      → off w x F G ≡ after s (outcome_with_dual_norms l o)
  unfolding after
  stop_by (moved i t) q = absurd (let z : ◌≡◌ {A = ℕ} 0 1 = cc in omega arith)
  stop_by (stopped v) q = q

  move_by : (o : Outcome) {u : State} → on u ≡ after s o → on (state_with_dual_norms l u) ≡ after s (outcome_with_dual_norms l o)
  unfolding after
  move_by (moved i t) {u} q = let z : u ≡ t = cc in ap (λ (v : State). on (state_with_dual_norms l v)) z
  move_by (stopped w) q = absurd (let z : ◌≡◌ {A = ℕ} 0 1 = cc in omega arith)

-- ---- the whole
module _ (Q : Problem) (s : State) (e : Entering) (c y : Sv) (x : Exchange) (ey : y ≡ inv_row Q s x.row) where
  abbrev whole : Outcome
  whole = exchange Q s e c x.value x.diff x.row x.pivot x.leaving

  abbrev both : Outcome
  both = both_norms Q s e c x.value x.diff x.row x.pivot x.leaving

  -- the new dual norms, where d stood and tau has the values t
  abbrev new_norms : List Float → Float → List Float → List Float
  new_norms d sq t = stored c (norm_at x.row sq x.pivot d c.vals t) d

  abbrev by_test : Bool → Outcome
  by_test b = or_stop b NotFinite (outcome_with_dual_norms (new_norms s.ws.dual_norms (sq_norm y) (tau_of Q s y).vals) whole)

  is_tested : both ≡ by_test (tested Q s c x y).goes
  unfolding both_norms tested
  is_tested =
      ap (λ (z : Sv). norms_moved s.ws c x.row x.pivot z (tau_of Q s z) whole) (sym ey)
      ∙ ap (λ (f : ℕ → Float). or_stop (tested Q s c x y).goes NotFinite (outcome_with_dual_norms (stored c f s.ws.dual_norms) whole))
      (sym (dual_norm_is s.ws x.pivot (sq_norm y) c x.row (tau_of Q s y)))

  -- what the code tested, with tau's values as it left them
  module _ (d : Bool) (v : List Float) (q : tested_by d v ≡ tested Q s c x y) where
    by_answer : both ≡ by_test d
    by_answer = is_tested ∙ ap (λ (t : Tested). by_test t.goes) (sym q)

    pub norms_end : d ≡ false → off NotFinite s.ws s.factor.numbers s.factor.coeffs ≡ after s both
    unfolding after
    norms_end f = sym (ap (after s) (by_answer ∙ ap by_test f))

    module _ (f : d ≡ true) where
      passed : both ≡ by_test true
      passed = by_answer ∙ ap by_test f

      -- and the exchange's answer, with the arrays as it left them
      module _ (r : Result Tally Stop) (N : List ℕ) (D : List Float) (F : List ℕ) (G : List Float) (o : left_by r N D F G ≡ after s whole) where
        pub norms_stop : (w : Stop) → r ≡ Err w → off w (packed N D) F G ≡ after s both
        norms_stop w g = stop_by s _ whole (rw g at o) ∙ sym (ap (after s) passed)

        pub norms_move : (t : Tally) → r ≡ Ok t → (sq : Float) → sq ≡ sq_norm y → (p : Pat) (E : List Float)
            → packed N E ≡ dual_stored (packed N D) c x.row x.pivot sq (sv_of v p)
            → on (state_in N E F G t) ≡ after s both
        unfolding tested
        norms_move t g sq es p E eE =
            let u : State = state_in N D F G t in
            let ou : on u ≡ after s whole = rw g at o in
            let new : stored c (new_dual_norm u.ws c x.row x.pivot sq (sv_of v p)) u.ws.dual_norms
            ≡ new_norms s.ws.dual_norms (sq_norm y) (tau_of Q s y).vals
            = ap (λ (h : ℕ → Float). stored c h u.ws.dual_norms) (sym (dual_norm_is u.ws x.pivot sq c x.row (sv_of v p)))
            ∙ ap (λ (l : List Float). new_norms l sq v) ((exchange_carries Q s e c x.value x.diff x.row x.pivot x.leaving).norms ou)
            ∙ ap (λ (z : Float). new_norms s.ws.dual_norms z v) es
            ∙ ap (λ (k : Tested). new_norms s.ws.dual_norms (sq_norm y) k.tau) q in
            ap (λ (w : Workspace). on (state_with w t.eta_count t.objective t.steps u.factor)) eE
            ∙ ap (λ (l : List Float). on (state_with_dual_norms l u)) new ∙ move_by s _ whole ou ∙ sym (ap (after s) passed)
