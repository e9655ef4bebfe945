-- 02, Ask 9: "A mark stays with its variable through later steps. A fixed column never enters." A step of either kind
-- leaves a fixed column its place, mark and value, and gives no other column a mark. Assumes nothing.
use mathlib.Core.Path.{◌≡◌, refl, sym, ap, ◌∙◌, subst}
use mathlib.Core.Bool.{Bool, true, false}
use mathlib.Core.List.{List}
use mathlib.Core.Logic.{◌⊎◌, inl, inr, ⊎_elim}
use Prim.Native.Nat.{ℕ, suc, ◌+◌, ◌<◌}
use native.Mathlib.Omega.{arith}
use lib.ListN.{set, length-set}
use lib.Seq.{get_or-set_same, get_or-set_other}
use lib.Ieee.{Float, nan}
use Rattle.doubles.specs.Lists.{◌!◌, ◌#◌}
use Rattle.doubles.proofs.Loops.{both_true}
use Rattle.doubles.proofs.Tests.{not_both}
use Rattle.sparse.specs.Scattered.{Sv, Below}
use Rattle.rules.specs.Plan.{Problem, Workspace, State, n_of, m_of, var_cell, flags_cell, flags_of, held}
use Rattle.rules.specs.Choose.{choose, may_enter}
use Rattle.rules.specs.DualRatio.{test_by, dual_candidate}
use Rattle.rules.specs.DualChoices.{DualGivesBy, exchanges}
use Rattle.rules.specs.Pivot.{flags_at, flipped, exchanged, refactored}
use Rattle.rules.specs.Step.{moved, step, dual_step_by}
use Rattle.rules.specs.Kinds.{Kind}
use Rattle.rules.specs.Conditions.{Exchanges, ExchangesBoth, StoresTo, step_column, dual_row, Moves}
use Rattle.rules.specs.Invariant.{ProblemFits, Fits}
use Rattle.rules.specs.Steps.{Steps, none, one_dual, turns, one_more}
use Rattle.rules.specs.declared.NonBasicVarState.{NonBasicVarState}
use Rattle.rules.specs.declared.Entering.{Entering}
use Rattle.std.specs.Prelude.{Some}
use Rattle.rules.specs.declared.LeavingVar.{LeavingVar}
use Rattle.rules.specs.declared.DualRatio.TheVariants.{Exchange as Dual-as-Exchange}
use Rattle.rules.specs.declared.PivotInfo.{PivotInfo}
use Rattle.rules.specs.declared.PivotInfo.TheVariants.{Flip, Exchange}
use Rattle.rules.proofs.Lists.{set_either}
use Rattle.rules.proofs.Maps.{split}
use Rattle.rules.proofs.EnteringColumn.{held_never, price_number, enters_exactly}
use Rattle.rules.proofs.DualColumn.{held_not_eligible}
use Rattle.rules.proofs.DualLeaving.{leaves_below}
use Rattle.rules.proofs.Vectors.{row_vector}
use Rattle.rules.proofs.Stops.{moves_exactly}
use Rattle.rules.proofs.DualStops.{any_moves}
use Rattle.rules.proofs.Moved.{enters_below, row_listed, step_vector}
use Rattle.rules.proofs.Steps.{steps_fit}
use Rattle.fix_rules.specs.Meaning.{Held, Free}

-- ---- flags: 7 is all three, and those that a bound gives have no mark
seven : flags_of 7 ≡ held
unfolding flags_of
seven = refl

pub bounds_free : (a b : Bool)
    → (flags_of (flags_cell (record { at_min = a; at_max = b; «fixed» = false }))).«fixed» ≡ false
unfolding flags_of flags_cell
bounds_free true true = refl
bounds_free true false = refl
bounds_free false true = refl
bounds_free false false = refl

pub at_free : (P : Problem) (v : ℕ) (x : Float) → (flags_of (flags_at P v x)).«fixed» ≡ false
unfolding flags_at
at_free P v x = bounds_free _ _

-- ---- a fixed column never enters
module _ (P : Problem) (w : Workspace) (c : ℕ) (mark : w.flags # c ≡ 7) where
  held_there : flags_of (w.flags # c) ≡ held
  held_there = ap flags_of mark ∙ seven

  -- by no primal step
  pub never_enters : (e : Entering) → choose P w ≡ Some e → ¬ (e.col ≡ c)
  never_enters e q same =
      let a = (enters_exactly P w e).0 q in
      let price : Float = w.prices ! e.col in
      let f : may_enter held price ≡ true =
      subst (λ (k : ℕ). may_enter (flags_of (w.flags # k)) price ≡ true → may_enter held price ≡ true) (sym same)
      (λ h. rw (← held_there) h) a.wins.passes in
      not_both f (held_never price (price_number _ _ a.scores))

  -- by no dual one, whether its leaving variable moves or stands still
  pub never_tested : (still up : Bool) (a : Float) → test_by still up (flags_of (w.flags # c)) a ≡ false
  never_tested true up a = ap (λ (f : NonBasicVarState). test_by true up f a) held_there ∙ (held_not_eligible up a).1
  never_tested false up a = ap (λ (f : NonBasicVarState). test_by false up f a) held_there ∙ (held_not_eligible up a).0

-- ---- what an exchange stores, whichever step makes it
module _ (P : Problem) (s : State) (col row : ℕ) (leaving : Float) where
  abbrev enters : ℕ
  enters = s.ws.nb_vars # col

  abbrev leaves : ℕ
  leaves = s.ws.basic_vars # row

  pub record Stored (t : State) : Type 0 where
    pub values : t.ws.nb_var_vals ≡ set s.ws.nb_var_vals col leaving
    pub flags : t.ws.flags ≡ set s.ws.flags col (flags_at P leaves leaving)
    pub cells : t.ws.var_states ≡ set (set s.ws.var_states enters (n_of P + row)) leaves col
    pub counted : t.steps ≡ suc s.steps

pub exchange_stored : (P : Problem) (s : State) (e : Entering) (c : Sv) (value diff : Float) (row : ℕ)
    (coeff leaving : Float) (t : State)
    → StoresTo P s e c (Exchange value diff row coeff leaving) t → Stored P s e.col row leaving t
unfolding StoresTo ExchangesBoth Exchanges exchanged refactored var_cell
exchange_stored P s e c value diff row coeff leaving t h =
    rw h.2
    (⊎_elim
    (λ a. rw a.1 (record { values = refl; flags = refl; cells = refl; counted = refl }))
    (λ a. rw a.1.2 (record { values = refl; flags = refl; cells = refl; counted = refl }))
    h.1)

-- so a column at another place keeps its mark and value, and no column gets a mark
module _ (P : Problem) (s : State) (f : Fits P s) (col row : ℕ) (leaving : Float) (hc : col < n_of P) (hr : row < m_of P)
    (t : State)
    (x : Stored P s col row leaving t) where
  abbrev w : Workspace
  w = s.ws

  enters_back : w.var_states # (w.nb_vars # col) ≡ col
  enters_back = (f.maps.place col hc).back

  leaves_back : w.var_states # (w.basic_vars # row) ≡ n_of P + row
  leaves_back = (f.maps.row row hr).back

  -- where a variable stands that neither enters nor leaves
  other_cell : (j : ℕ) → ¬ (j ≡ w.nb_vars # col) → ¬ (j ≡ w.basic_vars # row) → t.ws.var_states # j ≡ w.var_states # j
  other_cell j a b =
      ap (λ (l : List ℕ). l # j) x.cells
      ∙ get_or-set_other (set w.var_states (w.nb_vars # col) (n_of P + row)) (w.basic_vars # row) j col 0 b
      ∙ get_or-set_other w.var_states (w.nb_vars # col) j (n_of P + row) 0 a

  -- where it leaves to, and where it enters
  pub leaves_cell : t.ws.var_states # (w.basic_vars # row) ≡ col
  leaves_cell =
      ap (λ (l : List ℕ). l # (w.basic_vars # row)) x.cells
      ∙ get_or-set_same (set w.var_states (w.nb_vars # col) (n_of P + row)) (w.basic_vars # row) col 0
      (omega (arith, length-set w.var_states (w.nb_vars # col) (n_of P + row), f.lengths, f.maps.row row hr))

  enters_cell : t.ws.var_states # (w.nb_vars # col) ≡ n_of P + row
  enters_cell =
      let apart : ¬ (w.nb_vars # col ≡ w.basic_vars # row) =
      λ q. omega (arith, ap (λ (v : ℕ). w.var_states # v) q, enters_back, leaves_back) in
      ap (λ (l : List ℕ). l # (w.nb_vars # col)) x.cells
      ∙ get_or-set_other (set w.var_states (w.nb_vars # col) (n_of P + row)) (w.basic_vars # row)
      (w.nb_vars # col) col 0 apart
      ∙ get_or-set_same w.var_states (w.nb_vars # col) (n_of P + row) 0
      (omega (arith, f.lengths, f.maps.place col hc))

  exchange_held : (j c : ℕ) (value : Float) → ¬ (col ≡ c) → Held P w j c value → Held P t.ws j c value
  exchange_held j c value apart h =
      record {
        column = h.column;
        inside = h.inside;
        stands =
            other_cell j
            (λ q. apart (sym enters_back ∙ ap (λ (v : ℕ). w.var_states # v) (sym q) ∙ h.stands))
            (λ q. omega (arith, ap (λ (v : ℕ). w.var_states # v) q, leaves_back, h))
            ∙ h.stands;
        mark =
            ap (λ (l : List ℕ). l # c) x.flags ∙ get_or-set_other w.flags col c _ 0 (λ q. apart (sym q)) ∙ h.mark;
        valued =
            ap (λ (l : List Float). l ! c) x.values
            ∙ get_or-set_other w.nb_var_vals col c leaving nan (λ q. apart (sym q)) ∙ h.valued;
      }

  exchange_free : (j : ℕ) → j < n_of P + m_of P → Free P w j → Free P t.ws j
  exchange_free j l h =
      split j (w.nb_vars # col)
      (λ (q : j ≡ w.nb_vars # col). inl (rw (q, enters_cell) (omega arith)))
      (λ a. split j (w.basic_vars # row)
      (λ (q : j ≡ w.basic_vars # row).
      let new : t.ws.flags # col ≡ flags_at P (w.basic_vars # row) leaving =
      ap (λ (l : List ℕ). l # col) x.flags ∙ get_or-set_same w.flags col _ 0 (omega (arith, f.lengths)) in
      inr (rw (q, leaves_cell) (hc, ap (λ (y : ℕ). (flags_of y).«fixed») new ∙ at_free P _ _)))
      (λ b. ⊎_elim
      (λ z. inl (rw (other_cell j a b) z))
      (λ z.
      let apart : ¬ (w.var_states # j ≡ col) =
      λ q. a (sym ((f.maps.variable j l).non_basic z.0) ∙ ap (λ (k : ℕ). w.nb_vars # k) q) in
      let same : t.ws.flags # (w.var_states # j) ≡ w.flags # (w.var_states # j) =
      ap (λ (l : List ℕ). l # (w.var_states # j)) x.flags
      ∙ get_or-set_other w.flags col (w.var_states # j) _ 0 apart in
      inr (rw (other_cell j a b) (z.0, ap (λ (y : ℕ). (flags_of y).«fixed») same ∙ z.1)))
      h))

-- ---- a flip stores at the entering place too
module _ (P : Problem) (s : State) (f : Fits P s) (e : Entering) (column : Sv) (value diff : Float)
    (hc : e.col < n_of P) where
  abbrev flips : State
  flips = flipped P s e column value diff

  flip_held : (j c : ℕ) (x : Float) → ¬ (e.col ≡ c) → Held P s.ws j c x → Held P flips.ws j c x
  unfolding flipped
  flip_held j c x apart h =
      record {
        column = h.column;
        inside = h.inside;
        stands = h.stands;
        mark = get_or-set_other s.ws.flags e.col c _ 0 (λ q. apart (sym q)) ∙ h.mark;
        valued = get_or-set_other s.ws.nb_var_vals e.col c value nan (λ q. apart (sym q)) ∙ h.valued;
      }

  flip_free : (j : ℕ) → Free P s.ws j → Free P flips.ws j
  unfolding flipped
  flip_free j (inl h) = inl h
  flip_free j (inr h) =
      let c = s.ws.var_states # j in
      inr (h.0, set_either (λ y. (flags_of y).«fixed» ≡ false) s.ws.flags e.col _ 0 c (at_free P _ _) h.1)

-- ---- a step of either kind: what is at another place than the entering one stays, and no mark comes
module _ (P : Problem) (p : ProblemFits P) (s : State) (f : Fits P s) where
  module _ (e : Entering) (q : choose P s.ws ≡ Some e) (t : State) where
    abbrev below : e.col < n_of P
    below = enters_below P s.ws e q

    by_kind : (i : PivotInfo) → Moves P s e i t
        → ((j c : ℕ) (x : Float) → ¬ (e.col ≡ c) → Held P s.ws j c x → Held P t.ws j c x)
        × ((j : ℕ) → j < n_of P + m_of P → Free P s.ws j → Free P t.ws j)
    unfolding StoresTo
    by_kind (Flip value diff) m =
        rw m.after (
          flip_held P s f e (step_column P s e) value diff below,
          λ j l. flip_free P s f e (step_column P s e) value diff below j,
        )
    by_kind (Exchange value diff row coeff leaving) m =
        let l = row_listed P s.ws e (step_column P s e) value diff row coeff leaving m.chosen in
        let hr : row < m_of P =
        rw l.row_there ((step_vector P p s f e q).places_below.below l.place l.listed_place) in
        let x = exchange_stored P s e (step_column P s e) value diff row coeff leaving t m.after in
        (exchange_held P s f e.col row leaving below hr t x, exchange_free P s f e.col row leaving below hr t x)

  step_held : (e : Entering) → choose P s.ws ≡ Some e → (i : PivotInfo) (t : State) → step P s e ≡ moved i t
      → (j c : ℕ) (x : Float)
      → Held P s.ws j c x → Held P t.ws j c x
  step_held e q i t z j c x h =
      (by_kind e q t i ((moves_exactly P s e i t).0 z)).0 j c x (never_enters P s.ws c h.mark e q) h

  step_free : (e : Entering) → choose P s.ws ≡ Some e → (i : PivotInfo) (t : State) → step P s e ≡ moved i t
      → (j : ℕ)
      → j < n_of P + m_of P → Free P s.ws j → Free P t.ws j
  step_free e q i t z = (by_kind e q t i ((moves_exactly P s e i t).0 z)).1

-- ---- a dual step, whatever its test: the entering place passes it
given : {test : NonBasicVarState → Float → Bool} {Says : NonBasicVarState → Float → Type 0} {n : ℕ} (w : Workspace)
    (l : LeavingVar) (r : Sv)
    (e : Entering) (value diff coeff : Float) → Below n r
    → DualGivesBy w l r test Says (Dual-as-Exchange e value diff coeff)
    → (e.col < n) × (test (flags_of (w.flags # e.col)) coeff ≡ true)
unfolding dual_candidate
given w l r e value diff coeff b (exchanges s k x) = (b.below k x.inside, (both_true _ _ x.passes).0)

pub record Enters-at (test : NonBasicVarState → Float → Bool) (P : Problem) (s : State) (l : LeavingVar)
    (t : State) : Type 0 where
  pub col : ℕ
  pub coeff : Float
  pub col_below : col < n_of P
  pub tested : test (flags_of (s.ws.flags # col)) coeff ≡ true
  pub stores : Stored P s col l.row l.value t

module _ (test : NonBasicVarState → Float → Bool) (P : Problem) (p : ProblemFits P) (s : State) (l : LeavingVar) where
  pub dual_enters : (i : PivotInfo) (t : State) → dual_step_by test P s l ≡ moved i t → Enters-at test P s l t
  dual_enters i t q =
      let x = (any_moves test P s l i t q).chosen in
      let e = x.0 in
      let g =
      given s.ws l (dual_row P s l) e x.1.0 x.1.1 x.1.2 (row_vector P p s l.row).places_below
      x.1.3 in
      record {
        col = e.col;
        coeff = x.1.2;
        col_below = g.0;
        tested = g.1;
        stores =
            exchange_stored P s e (step_column P s e) x.1.0 x.1.1 l.row x.1.2 l.value t
            x.1.4.1.1.1;
      }

-- with the test of a run, or of the step that fixes
module _ (P : Problem) (p : ProblemFits P) (s : State) (f : Fits P s) (still up : Bool) (l : LeavingVar)
    (hr : l.row < m_of P) (i : PivotInfo)
    (t : State) (q : dual_step_by (test_by still up) P s l ≡ moved i t) where
  abbrev made : Enters-at (test_by still up) P s l t
  made = dual_enters (test_by still up) P p s l i t q

  pub never_enters_dual : (c : ℕ) → s.ws.flags # c ≡ 7 → ¬ (made.col ≡ c)
  never_enters_dual c h same =
      not_both made.tested
      (subst (λ (k : ℕ). test_by still up (flags_of (s.ws.flags # k)) made.coeff ≡ false) (sym same)
      (never_tested P s.ws c h still up made.coeff))

  pub dual_held : (j c : ℕ) (x : Float) → Held P s.ws j c x → Held P t.ws j c x
  dual_held j c x h =
      exchange_held P s f made.col l.row l.value made.col_below hr t made.stores j c x
      (never_enters_dual c h.mark) h

  pub dual_free : (j : ℕ) → j < n_of P + m_of P → Free P s.ws j → Free P t.ws j
  dual_free = exchange_free P s f made.col l.row l.value made.col_below hr t made.stores

-- ---- any number of steps of both kinds
module _ (P : Problem) (p : ProblemFits P) (s : State) (f : Fits P s) where
  pub steps_held : {b d : Kind} {k : ℕ} {t : State} (j c : ℕ) (x : Float) → Steps P s b d k t → Held P s.ws j c x
      → Held P t.ws j c x
  steps_held j c x none h = h
  steps_held j c x (one_dual {k} {t} {u} l i r q z) h =
      dual_held P p t (steps_fit P s p f r) false _ l (leaves_below P t.ws l q) i u z j c x (steps_held j c x r h)
  steps_held j c x (turns r q) h = steps_held j c x r h
  steps_held j c x (one_more {k} {t} {u} e i r q z) h =
      step_held P p t (steps_fit P s p f r) e q i u z j c x (steps_held j c x r h)

  pub steps_free : {b d : Kind} {k : ℕ} {t : State} (j : ℕ) → j < n_of P + m_of P → Steps P s b d k t → Free P s.ws j
      → Free P t.ws j
  steps_free j l none h = h
  steps_free j l (one_dual {k} {t} {u} v i r q z) h =
      dual_free P p t (steps_fit P s p f r) false _ v (leaves_below P t.ws v q) i u z j l (steps_free j l r h)
  steps_free j l (turns r q) h = steps_free j l r h
  steps_free j l (one_more {k} {t} {u} e i r q z) h =
      step_free P p t (steps_fit P s p f r) e q i u z j l (steps_free j l r h)
