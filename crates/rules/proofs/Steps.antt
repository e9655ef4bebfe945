-- The state of an end stands in the step relation from the start, and what every state has that does. Assumes nothing.
use mathlib.Core.Path.{◌≡◌, refl, sym, ap, subst, ◌∙◌}
use mathlib.Core.Bool.{Bool, true, false}
use mathlib.Core.Logic.{⊎_elim}
use Prim.Native.Nat.{ℕ, zero, suc, ◌+◌, ◌-◌, ◌*◌, ◌<◌, ◌≤◌}
use native.Mathlib.Omega.{arith}
use Rattle.doubles.specs.Loop.{until}
use Rattle.sparse.specs.Scattered.{Sv}
use Rattle.rules.specs.Plan.{Memory, Problem, State, m_of}
use Rattle.rules.specs.Start.{start_state, dual_feasible}
use Rattle.rules.specs.Choose.{choose}
use Rattle.rules.specs.Basis.{eta_used}
use Rattle.rules.specs.DualRow.{choose_row}
use Rattle.rules.specs.Pivot.{flipped, exchanged, refactored}
use Rattle.rules.specs.Step.{step, dual_step, moved, stopped, Outcome, Ended, ended, next, at_budget, run_of, dual_next, dual_at_budget, dual_run_of, then_primal, both_runs}
use Rattle.rules.specs.Kinds.{Kind, dual, primal, first_kind, kind_after, last_kind_by, last_kind}
use Rattle.rules.specs.Solve.{end_of}
use Rattle.rules.specs.Conditions.{Exchanges, ExchangesBoth, StoresTo, step_column, dual_info, DualStopsBy}
use Rattle.rules.specs.Invariant.{ProblemFits, Fits, Sound, Tails}
use Rattle.rules.specs.Steps.{Steps, none, one_dual, turns, one_more, Reached, Bounded}
use Rattle.rules.specs.declared.Entering.{Entering}
use Rattle.std.specs.Prelude.{Option, Some, None}
use Rattle.rules.specs.declared.LeavingVar.{LeavingVar}
use Rattle.rules.specs.declared.PivotInfo.{PivotInfo}
use Rattle.rules.specs.declared.PivotInfo.TheVariants.{Flip, Exchange}
use Rattle.rules.specs.declared.Stop.{Stop}
use Rattle.rules.specs.declared.Stop.TheVariants.{Finished, Spent, Unbounded, NotFinite, Singular, Infeasible}
use Rattle.rules.proofs.Vectors.{vector_few}
use Rattle.rules.proofs.DualLeaving.{leaves_below}
use Rattle.rules.proofs.Stops.{moves_exactly}
use Rattle.rules.proofs.DualStops.{dual_stops_exactly, any_moves}
use Rattle.rules.proofs.Moved.{Flips, column_of, row_of, helper, Pushes, Refactors, Exchanged, touched_vector, moves, dual_moves}
use Rattle.rules.proofs.Keeps.{step_fits, step_sound, dual_fits, dual_sound_holds, used_after, none_used}
use Rattle.rules.proofs.Tails.{step_tails, dual_tails}

-- at most one eta column more, with at most as many entries as there are rows; or one factoring more, and no column
record Grows (P : Problem) (s t : State) : Type 0 where
  columns : t.eta_count + t.factor.times ≤ suc (s.eta_count + s.factor.times)
  entries : eta_used s ≤ s.eta_count * m_of P → eta_used t ≤ t.eta_count * m_of P

-- ---- one step

-- a step is counted as one
stores_count : (P : Problem) (s : State) (e : Entering) (c : Sv) (i : PivotInfo) (t : State) → StoresTo P s e c i t → t.steps ≡ suc s.steps
unfolding StoresTo ExchangesBoth Exchanges flipped exchanged refactored
stores_count P s e c (Flip value diff) t h = ap (λ (u : State). u.steps) h
stores_count P s e c (Exchange value diff row coeff leaving) t h =
    ap (λ (u : State). u.steps) h.2
    ∙ ⊎_elim (λ a. ap (λ (u : State). u.steps) a.1) (λ a. ap (λ (u : State). u.steps) a.1.2) h.1

pub step_counts : (P : Problem) (s : State) (e : Entering) (i : PivotInfo) (t : State) → step P s e ≡ moved i t → t.steps ≡ suc s.steps
step_counts P s e i t q = stores_count P s e (step_column P s e) i t ((moves_exactly P s e i t).0 q).after

pub dual_counts : (P : Problem) (s : State) (l : LeavingVar) (i : PivotInfo) (t : State) → dual_step P s l ≡ moved i t
    → t.steps ≡ suc s.steps
dual_counts P s l i t q =
    let x = (any_moves _ P s l i t q).chosen in
    stores_count P s x.0 (step_column P s x.0) (dual_info P s l x.1.0 x.1.1 x.1.2) t x.1.4.1.1.1

module _ (P : Problem) (p : ProblemFits P) (s : State) (f : Fits P s) where
  made_grows : (e : Entering) (t : State) → Exchanged P s e t → Grows P s t
  unfolding exchanged refactored
  made_grows e t x =
      let z = x.swap in
      let v = touched_vector P p s f e x in
      ⊎_elim
      (λ (y : Pushes P s e z t).
      let b = used_after P s f e (column_of P s e z) (row_of P s e z) (helper P s e z) z.value z.diff z.row z.coeff z.leaving
      x.col_below x.row_below v y.fits in
      let few = vector_few (column_of P s e z) v in
      rw y.after (record { columns = omega arith; entries = λ h. omega (arith, b, few, h) }))
      (λ (y : Refactors P s e z t).
      let none = none_used P p s f e (column_of P s e z) (row_of P s e z) (helper P s e z) z.value z.diff z.row z.coeff z.leaving
      x.col_below x.row_below y.factor y.made in
      rw y.after (record { columns = omega arith; entries = λ h. omega (arith, none) }))
      x.stores

  step_grows : (e : Entering) → choose P s.ws ≡ Some e → (i : PivotInfo) (t : State) → step P s e ≡ moved i t → Grows P s t
  unfolding flipped
  step_grows e enters i t q =
      ⊎_elim (λ (x : Flips P s e t). rw x.after (record { columns = omega arith; entries = λ h. h })) (made_grows e t)
      (moves P p s f e enters i t q)

  dual_grows : (l : LeavingVar) → l.row < m_of P → (i : PivotInfo) (t : State) → dual_step P s l ≡ moved i t → Grows P s t
  dual_grows l h i t q = let x = dual_moves _ P p s l h i t q in made_grows x.0 t x.1

-- ---- k steps

-- 01: "a number in the run's answer, at most the budget, equal to the step definition's count"
pub steps_count : (P : Problem) (s : State) {b c : Kind} {k : ℕ} {t : State} → Steps P s b c k t → t.steps ≡ s.steps + k
steps_count P s none = omega arith
steps_count P s (one_dual {k} {t} {u} l i r c q) = omega (arith, steps_count P s r, dual_counts P t l i u q)
steps_count P s (turns r c) = steps_count P s r
steps_count P s (one_more {k} {t} {u} e i r c q) = omega (arith, steps_count P s r, step_counts P t e i u q)

-- k steps that stand in one kind lead to one state
module _ (P : Problem) (s : State) where
  pub no_dual : {k : ℕ} {t : State} → Steps P s primal dual k t → ⊥
  no_dual (one_dual l i r c q) = no_dual r

  dual_same : {b : Kind} {k : ℕ} {t u : State} → Steps P s b dual k t → Steps P s b dual k u → t ≡ u
  dual_same none none = refl
  dual_same (one_dual {t} l i r c q) (one_dual {t = t'} l' i' r' c' q') =
      let same : t ≡ t' = dual_same r r' in
      let chosen : choose_row P t.ws ≡ Some l' = rw same c' in
      let leaves : l ≡ l' = cc in
      cc

  -- a row left before the last dual step
  record LastDual (b : Kind) (k : ℕ) : Type 0 where
    before : State
    leaving : LeavingVar
    by_steps : Steps P s b dual k before
    leaves : choose_row P before.ws ≡ Some leaving

  last_dual : {b : Kind} {k : ℕ} {u : State} → Steps P s b dual (suc k) u → LastDual b k
  last_dual (one_dual {t = t} l i r c q) = record { before = t; leaving = l; by_steps = r; leaves = c }

  -- once they have turned, no dual step comes
  turned : {b : Kind} {k : ℕ} {t u : State} → Steps P s b primal k t → Steps P s b dual (suc k) u → ⊥
  turned none h = no_dual h
  turned (turns {t = t} r c) h =
      let x = last_dual h in
      let same : t ≡ x.before = dual_same r x.by_steps in
      let chosen : choose_row P t.ws ≡ Some x.leaving = rw same x.leaves in
      let clash : ◌≡◌ {A = ℕ} 0 1 = cc in
      omega arith
  turned (one_more e i r c q) h = turned r (last_dual h).by_steps

  -- the last primal step, or the turn
  data Last (b : Kind) (k : ℕ) (u : State) : Type 0 where
    by_turn : Steps P s b dual (suc k) u → Last b k u
    by_step : (t : State) (e : Entering) (i : PivotInfo) → Steps P s b primal k t → choose P t.ws ≡ Some e → step P t e ≡ moved i u
        → Last b k u

  last_primal : {b : Kind} {k : ℕ} {u : State} → Steps P s b primal (suc k) u → Last b k u
  last_primal (turns r c) = by_turn r
  last_primal (one_more {t = t} e i r c q) = by_step t e i r c q

  same_none : {b c : Kind} {u : State} → b ≡ c → Steps P s b c zero u → s ≡ u
  same_none e none = refl
  same_none {u = u} e (turns r c) = absurd (no_dual (subst (λ (x : Kind). Steps P s x dual zero u) e r))

  same_turned : {b : Kind} {k : ℕ} {t u : State} → Steps P s b dual k t → Steps P s b primal k u → t ≡ u
  same_turned h none = absurd (no_dual h)
  same_turned h (turns r c) = dual_same h r
  same_turned h (one_more e i r c q) = absurd (turned r h)

  pub steps_same : {b c : Kind} {k : ℕ} {t u : State} → Steps P s b c k t → Steps P s b c k u → t ≡ u
  steps_same none h = same_none refl h
  steps_same (one_dual l i r c q) h = dual_same (one_dual l i r c q) h
  steps_same (turns r c) h = same_turned r h
  steps_same {b = b} {u = u'} (one_more {k} {t} {u} e i r c q) h = go (λ v x. steps_same r x) (last_primal h)
    where
      go : ((v : State) → Steps P s b primal k v → t ≡ v) → Last b k u' → u ≡ u'
      go rest (by_turn x) = absurd (turned r x)
      go rest (by_step t' e' i' r' c' q') =
          let same : t ≡ t' = rest t' r' in
          let chosen : choose P t.ws ≡ Some e' = rw same c' in
          let enters : e ≡ e' = cc in
          cc

  -- and to one whatever kind they stand in
  pub steps_one : {b c d : Kind} {k : ℕ} {t u : State} → Steps P s b c k t → Steps P s b d k u → t ≡ u
  steps_one {c = dual} {d = dual} r q = dual_same r q
  steps_one {c = dual} {d = primal} r q = same_turned r q
  steps_one {c = primal} {d = dual} r q = sym (same_turned q r)
  steps_one {c = primal} {d = primal} r q = steps_same r q

module _ (P : Problem) (s : State) (p : ProblemFits P) where
  pub steps_fit : Fits P s → {b c : Kind} {k : ℕ} {t : State} → Steps P s b c k t → Fits P t
  steps_fit f none = f
  steps_fit f (one_dual {k} {t} {u} l i r c q) = dual_fits P p t (steps_fit f r) l (leaves_below P t.ws l c) i u q
  steps_fit f (turns r c) = steps_fit f r
  steps_fit f (one_more {k} {t} {u} e i r c q) = step_fits P p t (steps_fit f r) e c i u q

  pub steps_sound : Sound P s → {b c : Kind} {k : ℕ} {t : State} → Steps P s b c k t → Sound P t
  steps_sound g none = g
  steps_sound g (one_dual {k} {t} {u} l i r c q) = dual_sound_holds P p t (steps_sound g r) l (leaves_below P t.ws l c) i u q
  steps_sound g (turns r c) = steps_sound g r
  steps_sound g (one_more {k} {t} {u} e i r c q) = step_sound P p t (steps_sound g r) e c i u q

  pub steps_tails : (m : Memory) → Tails P m s → Fits P s → {b c : Kind} {k : ℕ} {t : State} → Steps P s b c k t → Tails P m t
  steps_tails m g f none = g
  steps_tails m g f (one_dual {k} {t} {u} l i r c q) =
      dual_tails P p m t (steps_fit f r) (steps_tails m g f r) l (leaves_below P t.ws l c) i u q
  steps_tails m g f (turns r c) = steps_tails m g f r
  steps_tails m g f (one_more {k} {t} {u} e i r c q) = step_tails P p m t (steps_fit f r) (steps_tails m g f r) e c i u q

  steps_grow : Fits P s → eta_used s ≤ s.eta_count * m_of P → {b c : Kind} {k : ℕ} {t : State} → Steps P s b c k t
      → (t.eta_count + t.factor.times ≤ s.eta_count + s.factor.times + k) × (eta_used t ≤ t.eta_count * m_of P)
  steps_grow f h none = (omega arith, h)
  steps_grow f h (one_dual {k} {t} {u} l i r c q) =
      let g = dual_grows P p t (steps_fit f r) l (leaves_below P t.ws l c) i u q in
      let b = steps_grow f h r in
      (omega (arith, g.columns, b.0), g.entries b.1)
  steps_grow f h (turns r c) = steps_grow f h r
  steps_grow f h (one_more {k} {t} {u} e i r c q) =
      let g = step_grows P p t (steps_fit f r) e c i u q in
      let b = steps_grow f h r in
      (omega (arith, g.columns, b.0), g.entries b.1)

-- ---- the runs: the end of each is reached by steps
record StepsTo (P : Problem) (s : State) (b c : Kind) (budget : ℕ) (e : Ended) : Type 0 where
  reaches : Reached P s b c e.state budget

module _ (P : Problem) (s₀ : State) (b : Kind) (budget : ℕ) where
  here : {c : Kind} {w : Stop} {s : State} → Steps P s₀ b c s.steps s → s.steps ≤ budget → StepsTo P s₀ b c budget (ended w s)
  here r h = record { reaches = record { by_steps = r; within = h } }

  -- the primal steps
  abbrev runs : ℕ → State → Ended
  runs k s = until (next P) (at_budget P) k s

  abbrev Primal : ℕ → Type 0
  Primal k = (s : State) → Steps P s₀ b primal s.steps s → s.steps + k ≤ budget → StepsTo P s₀ b primal budget (runs k s)

  until_reaches : (k : ℕ) → Primal k
  unfolding until next at_budget
  until_reaches zero s r h = go (choose P s.ws) refl
    where
      go : (c : Option Entering) → choose P s.ws ≡ c → StepsTo P s₀ b primal budget (runs 0 s)
      go None c = rw (c, at_budget) (here r (omega arith))
      go (Some e) c = rw (c, at_budget) (here r (omega arith))
  until_reaches (suc k) s r h = go (until_reaches k) (choose P s.ws) refl
    where
      turn : Primal k → (e : Entering) → choose P s.ws ≡ Some e → (o : Outcome) → step P s e ≡ o
          → StepsTo P s₀ b primal budget (runs (suc k) s)
      turn rest e c (moved i t) q =
          let n = step_counts P s e i t q in
          rw (c, q, until, next) (rest t (subst (λ (j : ℕ). Steps P s₀ b primal j t) (sym n) (one_more e i r c q)) (omega arith))
      turn rest e c (stopped w) q = rw (c, q, until, next) (here r (omega arith))

      go : Primal k → (c : Option Entering) → choose P s.ws ≡ c → StepsTo P s₀ b primal budget (runs (suc k) s)
      go rest None c = rw (c, until, next) (here r (omega arith))
      go rest (Some e) c = turn rest e c (step P s e) refl

  -- the dual steps: where no row leaves they turn
  abbrev dual_runs : ℕ → State → Ended
  dual_runs k s = until (dual_next P) (dual_at_budget P) k s

  abbrev DualTo : Ended → Type 0
  DualTo e = StepsTo P s₀ b (kind_after e.why) budget e

  abbrev Dual : ℕ → Type 0
  Dual k = (s : State) → Steps P s₀ b dual s.steps s → s.steps + k ≤ budget → DualTo (dual_runs k s)

  -- a stop leaves them where they are
  halts : (s : State) (l : LeavingVar) (w : Stop) → dual_step P s l ≡ stopped w → Steps P s₀ b dual s.steps s → s.steps ≤ budget
      → DualTo (ended w s)
  unfolding DualStopsBy
  halts s l Finished q r h = absurd ((dual_stops_exactly P s l Finished).0 q)
  halts s l Spent q r h = here r h
  halts s l Unbounded q r h = here r h
  halts s l NotFinite q r h = here r h
  halts s l Singular q r h = here r h
  halts s l (Infeasible k) q r h = here r h

  dual_reaches : (k : ℕ) → Dual k
  unfolding until dual_next dual_at_budget
  dual_reaches zero s r h = go (choose_row P s.ws) refl
    where
      go : (c : Option LeavingVar) → choose_row P s.ws ≡ c → DualTo (dual_runs 0 s)
      go None c = rw (c, dual_at_budget) (here (turns r c) (omega arith))
      go (Some l) c = rw (c, dual_at_budget) (here r (omega arith))
  dual_reaches (suc k) s r h = go (dual_reaches k) (choose_row P s.ws) refl
    where
      turn : Dual k → (l : LeavingVar) → choose_row P s.ws ≡ Some l → (o : Outcome) → dual_step P s l ≡ o → DualTo (dual_runs (suc k) s)
      turn rest l c (moved i t) q =
          let n = dual_counts P s l i t q in
          rw (c, q, until, dual_next) (rest t (subst (λ (j : ℕ). Steps P s₀ b dual j t) (sym n) (one_dual l i r c q)) (omega arith))
      turn rest l c (stopped w) q = rw (c, q, until, dual_next) (halts s l w q r (omega arith))

      go : Dual k → (c : Option LeavingVar) → choose_row P s.ws ≡ c → DualTo (dual_runs (suc k) s)
      go rest None c = rw (c, until, dual_next) (here (turns r c) (omega arith))
      go rest (Some l) c = turn rest l c (dual_step P s l) refl

  -- the primal steps behind them
  then_reaches : (w : Stop) (t : State) → DualTo (ended w t) → StepsTo P s₀ b (kind_after w) budget (then_primal P budget (ended w t))
  unfolding run_of
  then_reaches Finished t h =
      let r = h.reaches in
      until_reaches (budget - t.steps) t r.by_steps (omega (arith, r.within))
  then_reaches Spent t h = h
  then_reaches Unbounded t h = h
  then_reaches NotFinite t h = h
  then_reaches Singular t h = h
  then_reaches (Infeasible k) t h = h

-- ---- the end of a run
module _ (P : Problem) (m : Memory) where
  end_steps : StepsTo P (start_state P m) (first_kind P.plan) (last_kind P m) P.plan.budget (end_of P m)
  unfolding end_of both_runs run_of dual_run_of first_kind last_kind_by start_state
  end_steps = go (dual_feasible P.plan) refl
    where
      go : (b : Bool) → dual_feasible P.plan ≡ b
          → StepsTo P (start_state P m) (first_kind P.plan) (last_kind P m) P.plan.budget (end_of P m)
      go true e =
          rw (e, end_of, first_kind)
          (then_reaches P (start_state P m) dual P.plan.budget _ _ (dual_reaches P (start_state P m) dual P.plan.budget _ _ none (omega arith)))
      go false e = rw (e, end_of, first_kind) (until_reaches P (start_state P m) primal P.plan.budget _ _ none (omega arith))

  -- 01: "The step count in the answer is the number of steps the rules took"
  pub end_reached : Reached P (start_state P m) (first_kind P.plan) (last_kind P m) (end_of P m).state P.plan.budget
  end_reached = end_steps.reaches

  pub end_bounded : ProblemFits P → Fits P (start_state P m) → Bounded P (end_of P m).state
  unfolding start_state
  end_bounded p f =
      let r = end_reached.by_steps in
      let g = steps_grow P (start_state P m) p f (omega (arith, f.store.begins)) r in
      record { columns = omega (arith, g.0); entries = g.1 }
