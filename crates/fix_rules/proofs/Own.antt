-- The column's own part of both calls: what it does to that column's mark and value, and that it leaves every other
-- column alone; and how a call goes on from there. Assumes nothing.
use mathlib.Core.Path.{◌≡◌, refl, sym, ap, ◌∙◌, subst}
use mathlib.Core.Bool.{Bool, true, false}
use mathlib.Core.Logic.{inl, inr}
use Prim.Native.Nat.{ℕ, ◌+◌, ◌-◌, ◌<◌, ◌≤◌}
use native.Mathlib.Omega.{arith}
use lib.Dec.{ltb, eqb}
use lib.ListN.{set}
use lib.Seq.{get_or-set_same, get_or-set_other}
use lib.Ieee.{Float, eq, nan}
use borrow.Author.Tests.{ltb-true, ltb-false, eqb-false}
use Rattle.doubles.specs.Num.{finite}
use Rattle.doubles.specs.Lists.{◌!◌, ◌#◌}
use Rattle.rules.specs.Plan.{Problem, State, n_of, m_of, var_state_of, flags_cell, flags_of, held}
use Rattle.rules.specs.DualRatio.{leaving_rises, test_by}
use Rattle.rules.specs.DualChoices.{DualGivesBy}
use Rattle.rules.specs.Step.{Outcome, moved, stopped, dual_step_by, ended, both_runs}
use Rattle.rules.specs.Kinds.{primal}
use Rattle.rules.specs.Conditions.{dual_row, DualStopsBy}
use Rattle.rules.specs.Invariant.{ProblemFits, Fits}
use Rattle.rules.specs.declared.NonBasicVarState.{NonBasicVarState}
use Rattle.rules.specs.declared.VarState.{VarState}
use Rattle.rules.specs.declared.VarState.TheVariants.{Basic, NonBasic}
use Rattle.rules.specs.declared.LeavingVar.{LeavingVar}
use Rattle.rules.specs.declared.PivotInfo.{PivotInfo}
use Rattle.rules.specs.declared.Stop.{Stop}
use Rattle.rules.specs.declared.Stop.TheVariants.{Finished, Spent, Unbounded, NotFinite, Singular, Infeasible}
use Rattle.rules.proofs.DualColumn.{ratio_exactly}
use Rattle.rules.proofs.DualStops.{stops_by}
use Rattle.fix_rules.specs.Fix.{with_flags, marked, unmarked, shift_finite, shifted, fix_leaving, fix_test, fix_step, fix_non_basic, after_fix_step, fix_basic, fixed, unfixed}
use Rattle.fix_rules.proofs.Honest.{Honest, dual_honest, marked_honest, shifted_honest}
use Rattle.fix_rules.specs.Meaning.{Held, Free, GoesOn, Made, moves, leaves, OwnStop, no_budget, not_finite, singular, infeasible, FixEnds, not_made, made}
use Rattle.fix_rules.proofs.Goes.{run_goes, both_goes}
use Rattle.fix_rules.proofs.Held.{Enters-at, dual_enters, dual_held, dual_free, leaves_cell, at_free}

-- ---- where a cell stands
abbrev standing : ℕ → ℕ → Bool → VarState
standing n x b = elim b [ true ↦ NonBasic x | false ↦ Basic (x - n) ]

pub at_place : (n x c : ℕ) → var_state_of n x ≡ NonBasic c → (x < n) × (x ≡ c)
unfolding var_state_of
at_place n x c = go (ltb x n) refl
  where
    go : (b : Bool) → ltb x n ≡ b → standing n x b ≡ NonBasic c → (x < n) × (x ≡ c)
    go true e q = (ltb-true x n e, cc)
    go false e q = absurd (let z : ◌≡◌ {A = ℕ} 0 1 = cc in omega arith)

pub in_row : (n x r : ℕ) → var_state_of n x ≡ Basic r → (n ≤ x) × (x ≡ n + r)
unfolding var_state_of
in_row n x r = go (ltb x n) refl
  where
    go : (b : Bool) → ltb x n ≡ b → standing n x b ≡ Basic r → (n ≤ x) × (x ≡ n + r)
    go true e q = absurd (let z : ◌≡◌ {A = ℕ} 0 1 = cc in omega arith)
    go false e q = let z : x - n ≡ r = cc in (ltb-false x n e, omega (arith, ltb-false x n e))

-- ---- a flags cell is written where column j stands
module _ (P : Problem) (s : State) (f : Fits P s) (j y : ℕ) where
  abbrev at_j : ℕ
  at_j = s.ws.var_states # j

  -- another column stands elsewhere
  pub elsewhere : (i : ℕ) → i < n_of P + m_of P → j < n_of P + m_of P → ¬ (j ≡ i) → s.ws.var_states # i < n_of P
      → ¬ (s.ws.var_states # i ≡ at_j)
  elsewhere i li lj apart h q =
      apart
      (sym ((f.maps.variable j lj).non_basic (omega arith))
      ∙ ap (λ (c : ℕ). s.ws.nb_vars # c) (sym q)
      ∙ (f.maps.variable i li).non_basic h)

  pub flags_held : (i c : ℕ) (x : Float) → j < n_of P + m_of P → ¬ (j ≡ i) → Held P s.ws i c x
      → Held P (with_flags s at_j y).ws i c x
  flags_held i c x lj apart h =
      let other : ¬ (c ≡ at_j) = λ q. elsewhere i (omega (arith, h)) lj apart (omega (arith, h)) (h.stands ∙ q) in
      record {
        column = h.column;
        inside = h.inside;
        stands = h.stands;
        mark = get_or-set_other s.ws.flags at_j c y 0 other ∙ h.mark;
        valued = h.valued;
      }

  pub flags_free : (i : ℕ) → i < n_of P + m_of P → j < n_of P + m_of P → ¬ (j ≡ i) → Free P s.ws i
      → Free P (with_flags s at_j y).ws i
  flags_free i li lj apart (inl h) = inl h
  flags_free i li lj apart (inr h) =
      let c = s.ws.var_states # i in
      let same : set s.ws.flags at_j y # c ≡ s.ws.flags # c =
      get_or-set_other s.ws.flags at_j c y 0 (elsewhere i li lj apart h.0) in
      inr (h.0, ap (λ (z : ℕ). (flags_of z).«fixed») same ∙ h.1)

-- ---- the step that fixes a basic column
module _ (P : Problem) (p : ProblemFits P) (s : State) (h : Honest P s) (r : ℕ) (hr : r < m_of P) (value : Float)
    (i : PivotInfo) (t : State)
    (q : fix_step P s r value ≡ moved i t) where
  abbrev still : Bool
  still = eq (s.ws.basic_var_vals ! r) value

  abbrev up : Bool
  up = leaving_rises s.ws (fix_leaving P s r value)

  as_dual : dual_step_by (test_by still up) P s (fix_leaving P s r value) ≡ moved i t
  unfolding fix_step fix_test
  as_dual = q

  fix_enters : Enters-at (test_by still up) P s (fix_leaving P s r value) t
  fix_enters = dual_enters (test_by still up) P p s (fix_leaving P s r value) i t as_dual

  stepped_honest : Honest P t
  stepped_honest = dual_honest P p s h (test_by still up) (fix_leaving P s r value) hr i t as_dual

  stepped_held : (k c : ℕ) (x : Float) → Held P s.ws k c x → Held P t.ws k c x
  stepped_held = dual_held P p s h.sound.fits still up (fix_leaving P s r value) hr i t as_dual

  stepped_free : (k : ℕ) → k < n_of P + m_of P → Free P s.ws k → Free P t.ws k
  stepped_free = dual_free P p s h.sound.fits still up (fix_leaving P s r value) hr i t as_dual

  -- the column of row r stands at the entering place then, with the value
  out_of_row : t.ws.var_states # (s.ws.basic_vars # r) ≡ fix_enters.col
  out_of_row =
      leaves_cell P s h.sound.fits fix_enters.col r value fix_enters.col_below hr t fix_enters.stores

  valued_there : t.ws.nb_var_vals ! fix_enters.col ≡ value
  valued_there =
      ap (λ l. l ! fix_enters.col) fix_enters.stores.values
      ∙ get_or-set_same s.ws.nb_var_vals fix_enters.col value nan
      (omega (arith, h.sound.fits.lengths, fix_enters.col_below))

-- ---- the own part, made
module _ (P : Problem) (p : ProblemFits P) (s : State) (h : Honest P s) (j : ℕ) (lj : j < n_of P) (value : Float) where
  -- its row, where it is basic
  row_of : (r : ℕ) → var_state_of (n_of P) (s.ws.var_states # j) ≡ Basic r → (r < m_of P) × (s.ws.basic_vars # r ≡ j)
  row_of r e =
      let v = h.sound.fits.maps.variable j (omega arith) in
      let x = in_row (n_of P) (s.ws.var_states # j) r e in
      let z : s.ws.var_states # j - n_of P ≡ r = omega (arith, x.1) in
      (omega (arith, v.cell, x.1), ap (λ (k : ℕ). s.ws.basic_vars # k) (sym z) ∙ v.basic x.0)

  pub made_honest : {t : State} → finite value ≡ true → Made P s j value t → Honest P t
  made_honest v (moves c e o) = shifted_honest P s h c value v o
  made_honest v (leaves r i t e b q) =
      marked_honest P t (stepped_honest P p s h r (row_of r e).0 value i t q) (t.ws.var_states # j)

  -- "a non_basic one with budget 0 moves and marks": it is no step, the other is one
  pub made_steps : {t : State} → s.steps ≡ 0 → Made P s j value t → t.steps ≤ P.plan.budget
  unfolding shifted marked
  made_steps z (moves c e o) = omega arith
  made_steps z (leaves r i t e b q) = omega (arith, (fix_enters P p s h r (row_of r e).0 value i t q).stores.counted)

  -- column j is marked where it stands, with the value that was asked for
  pub made_held : {t : State} → Made P s j value t → (c : ℕ) × Held P t.ws j c value
  unfolding shifted marked flags_cell
  made_held (moves c e o) =
      let x = at_place (n_of P) (s.ws.var_states # j) c e in
      let g = h.sound.fits.lengths in (
        c,
        record {
          column = lj;
          inside = omega (arith, x.0, x.1);
          stands = x.1;
          mark = get_or-set_same s.ws.flags c 7 0 (omega (arith, x.0, x.1, g));
          valued = get_or-set_same s.ws.nb_var_vals c value nan (omega (arith, x.0, x.1, g));
        },
      )
  made_held (leaves r i t e b q) =
      let w = row_of r e in
      let x = fix_enters P p s h r w.0 value i t q in
      let at : t.ws.var_states # j ≡ x.col =
      ap (λ (k : ℕ). t.ws.var_states # k) (sym w.1) ∙ out_of_row P p s h r w.0 value i t q in
      let c : ℕ = t.ws.var_states # j in (
        c,
        record {
          column = lj;
          inside = omega (arith, x.col_below, at);
          stands = refl;
          mark =
              get_or-set_same t.ws.flags c 7 0
              (omega (arith, x.col_below, at, (stepped_honest P p s h r w.0 value i t q).sound.fits.lengths));
          valued = ap (λ (k : ℕ). t.ws.nb_var_vals ! k) at ∙ valued_there P p s h r w.0 value i t q;
        },
      )

  -- every other column keeps its mark, place and value, or has none still
  pub made_others : {t : State} → Made P s j value t → (k c : ℕ) (x : Float) → ¬ (j ≡ k) → Held P s.ws k c x
      → Held P t.ws k c x
  unfolding shifted marked
  made_others (moves d e o) k c x apart g =
      let f = h.sound.fits in
      let y = at_place (n_of P) (s.ws.var_states # j) d e in
      let other : ¬ (c ≡ d) =
      λ q. elsewhere P s f j 7 k (omega (arith, g)) (omega arith) apart (omega (arith, g))
      (g.stands ∙ q ∙ sym y.1) in
      record {
        column = g.column;
        inside = g.inside;
        stands = g.stands;
        mark = get_or-set_other s.ws.flags d c _ 0 other ∙ g.mark;
        valued = get_or-set_other s.ws.nb_var_vals d c value nan other ∙ g.valued;
      }
  made_others (leaves r i t e b q) k c x apart g =
      let hr = (row_of r e).0 in
      flags_held P t (stepped_honest P p s h r hr value i t q).sound.fits j _ k c x (omega arith) apart
      (stepped_held P p s h r hr value i t q k c x g)

  pub made_free : {t : State} → Made P s j value t → (k : ℕ) → k < n_of P + m_of P → ¬ (j ≡ k) → Free P s.ws k
      → Free P t.ws k
  unfolding shifted marked
  made_free (moves d e o) k lk apart g =
      let y = at_place (n_of P) (s.ws.var_states # j) d e in
      subst (λ (c : ℕ). Free P (with_flags s c (flags_cell held)).ws k) y.1
      (flags_free P s h.sound.fits j _ k lk (omega arith) apart g)
  made_free (leaves r i t e b q) k lk apart g =
      let hr = (row_of r e).0 in
      flags_free P t (stepped_honest P p s h r hr value i t q).sound.fits j _ k lk (omega arith) apart
      (stepped_free P p s h r hr value i t q k lk g)

-- ---- how the calls go on
module _ (P : Problem) (p : ProblemFits P) (s : State) (h : Honest P s) (zero : s.steps ≡ 0) (j : ℕ) (lj : j < n_of P)
    (value : Float) where
  -- a dual step with any test stops so alone
  own_stop : (r : ℕ) (w : Stop) → fix_step P s r value ≡ stopped w → OwnStop w
  unfolding fix_step DualStopsBy
  own_stop r w q =
      go w
      ((stops_by test P s l
      (ratio_exactly s.ws l (dual_row P s l) {test = test} {Says = Says} (λ f a. (λ h. h, λ h. h))) w).0 q)
    where
      l : LeavingVar
      l = fix_leaving P s r value

      test : NonBasicVarState → Float → Bool
      test = fix_test P s r value

      Says : NonBasicVarState → Float → Type 0
      Says f a = test f a ≡ true

      go : (w : Stop) → DualStopsBy P s l (DualGivesBy s.ws l (dual_row P s l) test Says) w → OwnStop w
      go Finished x = absurd x
      go Spent x = absurd x
      go Unbounded x = absurd x
      go NotFinite x = not_finite
      go Singular x = singular
      go (Infeasible k) x = infeasible k

  goes : {t : State} → Made P s j value t → FixEnds P s j value (both_runs P P.plan.budget t)
  goes {t} m = made t m (both_goes P t (made_steps P p s h j lj value zero m))

  non_basic : (c : ℕ) → var_state_of (n_of P) (s.ws.var_states # j) ≡ NonBasic c
      → FixEnds P s j value (fix_non_basic P s c value)
  unfolding fix_non_basic
  non_basic c e = go (shift_finite P s c value) refl
    where
      go : (b : Bool) → shift_finite P s c value ≡ b
          → FixEnds P s j value
          (elim b [ true ↦ both_runs P P.plan.budget (shifted P s c value) | false ↦ ended NotFinite s ])
      go true o = goes (moves c e o)
      go false o = not_made NotFinite not_finite

  basic : (r : ℕ) → var_state_of (n_of P) (s.ws.var_states # j) ≡ Basic r → FixEnds P s j value (fix_basic P s j r value)
  unfolding fix_basic
  basic r e = go (eqb P.plan.budget 0) refl
    where
      stepped : 0 < P.plan.budget → (o : Outcome) → fix_step P s r value ≡ o
          → FixEnds P s j value (after_fix_step P s j o)
      stepped b (moved i t) q = goes (leaves r i t e b q)
      stepped b (stopped w) q = not_made w (own_stop r w q)

      go : (b : Bool) → eqb P.plan.budget 0 ≡ b
          → FixEnds P s j value (elim b [ true ↦ ended Spent s | false ↦ after_fix_step P s j (fix_step P s r value) ])
      go true q = not_made Spent no_budget
      go false q = let n : ¬ (P.plan.budget ≡ 0) = eqb-false _ _ q in stepped (omega arith) (fix_step P s r value) refl

  -- "Fixing continues with dual steps": the own part isn't made, and the state is that before the call; or it is, and
  -- the rules' steps go on from there
  pub fix_ends : FixEnds P s j value (fixed P s j value)
  unfolding fixed
  fix_ends = go (var_state_of (n_of P) (s.ws.var_states # j)) refl
    where
      go : (x : VarState) → var_state_of (n_of P) (s.ws.var_states # j) ≡ x
          → FixEnds P s j value (elim x [ NonBasic c ↦ fix_non_basic P s c value | Basic r ↦ fix_basic P s j r value ])
      go (NonBasic c) e = non_basic c e
      go (Basic r) e = basic r e

-- "unfixing with primal ones"
pub unfix_ends : (P : Problem) (s : State) → s.steps ≡ 0 → (j : ℕ)
    → GoesOn P (unmarked P s (s.ws.var_states # j)) primal (unfixed P s j)
unfolding unfixed unmarked
unfix_ends P s zero j = run_goes P (unmarked P s (s.ws.var_states # j)) zero

-- the column has no mark then
pub unmarked_free : (P : Problem) (s : State) → Fits P s → (j : ℕ) → j < n_of P
    → Free P (unmarked P s (s.ws.var_states # j)).ws j
unfolding unmarked
unmarked_free P s f j lj = go (ltb c (n_of P)) refl
  where
    c : ℕ
    c = s.ws.var_states # j

    go : (b : Bool) → ltb c (n_of P) ≡ b → Free P (unmarked P s c).ws j
    go true e =
        let new = get_or-set_same s.ws.flags c _ 0 (omega (arith, ltb-true c (n_of P) e, f.lengths)) in
        inr (ltb-true c (n_of P) e, ap (λ (y : ℕ). (flags_of y).«fixed») new ∙ at_free P _ _)
    go false e = inl (ltb-false c (n_of P) e)
