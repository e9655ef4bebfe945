-- A column that leaves by a dual step of any test stands at a place afterwards, and the state fits. Assumes nothing.
use mathlib.Core.Path.{◌≡◌, sym, ap, ◌∙◌}
use mathlib.Core.Bool.{Bool, true}
use mathlib.Core.List.{List}
use mathlib.Core.Logic.{⊎_elim}
use Prim.Native.Nat.{ℕ, ◌+◌, ◌-◌, ◌<◌}
use native.Mathlib.Omega.{arith}
use lib.ListN.{length, set, length-set}
use lib.Seq.{get_or-set_same}
use lib.Ieee.{Float}
use Rattle.doubles.specs.Lists.{◌#◌}
use Rattle.sparse.specs.Scattered.{Sv}
use Rattle.rules.specs.Plan.{Problem, State, n_of, m_of, var_cell}
use Rattle.rules.specs.DualChoices.{DualGivesBy, exchanges}
use Rattle.rules.specs.Pivot.{exchanged, refactored}
use Rattle.rules.specs.Step.{dual_step_by, moved}
use Rattle.rules.specs.Conditions.{Exchanges, ExchangesBoth, StoresTo, dual_row}
use Rattle.rules.specs.Invariant.{ProblemFits, Fits}
use Rattle.rules.specs.declared.NonBasicVarState.{NonBasicVarState}
use Rattle.rules.specs.declared.Entering.{Entering}
use Rattle.rules.specs.declared.LeavingVar.{LeavingVar}
use Rattle.rules.specs.declared.DualRatio.TheVariants.{Exchange as Dual-as-Exchange}
use Rattle.rules.specs.declared.PivotInfo.{PivotInfo}
use Rattle.rules.specs.declared.PivotInfo.TheVariants.{Exchange}
use Rattle.rules.proofs.Vectors.{row_vector}
use Rattle.rules.proofs.DualStops.{any_moves}
use Rattle.rules.proofs.Moved.{dual_moves}
use Rattle.rules.proofs.Keeps.{made_fits}

-- the map back after an exchange
module _ (P : Problem) (s : State) (e : Entering) where
  abbrev cells : ℕ → List ℕ
  cells row = set (set s.ws.var_states (s.ws.nb_vars # e.col) (n_of P + row)) (s.ws.basic_vars # row) e.col

  cells_after : (c : Sv) (value diff : Float) (row : ℕ) (coeff leaving : Float) (t : State)
      → StoresTo P s e c (Exchange value diff row coeff leaving) t → t.ws.var_states ≡ cells row
  unfolding StoresTo ExchangesBoth Exchanges exchanged refactored var_cell
  cells_after c value diff row coeff leaving t h =
      ap (λ (u : State). u.ws.var_states) h.2
      ∙ ⊎_elim (λ a. ap (λ (u : State). u.ws.var_states) a.1) (λ a. ap (λ (u : State). u.ws.var_states) a.1.2) h.1

module _ (test : NonBasicVarState → Float → Bool) (P : Problem) (p : ProblemFits P) (s : State) (f : Fits P s) (l : LeavingVar)
    (h : l.row < m_of P) (i : PivotInfo) (t : State) (q : dual_step_by test P s l ≡ moved i t) where
  pub leaves_fits : Fits P t
  leaves_fits = let x = dual_moves test P p s l h i t q in made_fits P p s f x.0 t x.1

  below : (e : Entering) (value diff coeff : Float)
      → DualGivesBy s.ws l (dual_row P s l) test (λ f a. test f a ≡ true) (Dual-as-Exchange e value diff coeff) → e.col < n_of P
  below e value diff coeff (exchanges sound k x) = (row_vector P p s l.row).places_below.below k x.inside

  pub leaves_to_place : (j : ℕ) → j < n_of P → s.ws.var_states # j ≡ n_of P + l.row → t.ws.var_states # j < n_of P
  leaves_to_place j hj cell =
      let x = (any_moves test P s l i t q).chosen in
      let e = x.0 in
      let at = f.maps.variable j (omega arith) in
      let back : s.ws.basic_vars # (s.ws.var_states # j - n_of P) ≡ j = at.basic (omega (arith, cell)) in
      let row : s.ws.var_states # j - n_of P ≡ l.row = omega (arith, cell) in
      let leaves : s.ws.basic_vars # l.row ≡ j = ap (λ (k : ℕ). s.ws.basic_vars # k) (sym row) ∙ back in
      let entered = set s.ws.var_states (s.ws.nb_vars # e.col) (n_of P + l.row) in
      let inside : j < length entered = omega (arith, length-set s.ws.var_states (s.ws.nb_vars # e.col) (n_of P + l.row), f.lengths.var_states_long) in
      let after : t.ws.var_states ≡ cells P s e l.row = cells_after P s e _ _ _ _ _ _ t x.1.4.1.1.1 in
      let there : t.ws.var_states # j ≡ e.col =
      ap (λ (c : List ℕ). c # j) after ∙ ap (λ (v : ℕ). set entered v e.col # j) leaves ∙ get_or-set_same entered j e.col 0 inside in
      omega (arith, there, below e _ _ _ x.1.3)
