-- What every step keeps, a run keeps, whichever steps it has and wherever it ends. Assumes nothing.
use mathlib.Core.Path.{◌≡◌, refl}
use Prim.Native.Nat.{ℕ, zero, suc, ◌-◌}
use Rattle.doubles.specs.Loop.{until, Next, done, more}
use Rattle.rules.specs.Plan.{Problem, State}
use Rattle.rules.specs.Choose.{choose}
use Rattle.rules.specs.DualRow.{choose_row}
use Rattle.rules.specs.Step.{Outcome, moved, stopped, step, dual_step, Ended, ended, next, at_budget, run_of}
use Rattle.rules.specs.Step.{dual_next, dual_at_budget, dual_run_of, then_primal, both_runs}
use Rattle.rules.specs.declared.Entering.{Entering}
use Rattle.std.specs.Prelude.{Option, Some, None}
use Rattle.rules.specs.declared.LeavingVar.{LeavingVar}
use Rattle.rules.specs.declared.PivotInfo.{PivotInfo}
use Rattle.rules.specs.declared.Stop.{Stop}
use Rattle.rules.specs.declared.Stop.TheVariants.{Finished, Spent, Unbounded, NotFinite, Singular, Infeasible}

-- ---- any loop with a budget: Q of its states, D of what it gives
module _ {S R : Type 0} (turn : S → Next S R) (last : S → R) (Q : S → Type 0) (D : R → Type 0) where
  abbrev Turned : Next S R → Type 0
  Turned (done r) = D r
  Turned (more t) = Q t

  until_keeps : ((s : S) → Q s → Turned (turn s)) → ((s : S) → Q s → D (last s)) → (k : ℕ) (s : S) → Q s
      → D (until turn last k s)
  unfolding until
  until_keeps by_turn by_Last zero s q = by_Last s q
  until_keeps by_turn by_Last (suc k) s q = go (until_keeps by_turn by_Last k) (turn s) (by_turn s q)
    where
      go : ((t : S) → Q t → D (until turn last k t)) → (x : Next S R) → Turned x
          → D (elim x [ done r ↦ r | more t ↦ until turn last k t ])
      go rest (done r) h = h
      go rest (more t) h = rest t h

-- ---- the runs
module _ (P : Problem) (Q : State → Type 0)
    (by_step : (s : State) → Q s → (e : Entering) → choose P s.ws ≡ Some e → (i : PivotInfo) (t : State)
    → step P s e ≡ moved i t → Q t) where
  abbrev Ends : Ended → Type 0
  Ends e = Q e.state

  primal_turn : (s : State) → Q s → Turned (next P) (at_budget P) Q Ends (next P s)
  unfolding next
  primal_turn s q = go (choose P s.ws) refl
    where
      turn : (e : Entering) → choose P s.ws ≡ Some e → (o : Outcome) → step P s e ≡ o
          → Turned (next P) (at_budget P) Q Ends (elim o [ moved i t ↦ more t | stopped w ↦ done (ended w s) ])
      turn e c (moved i t) h = by_step s q e c i t h
      turn e c (stopped w) h = q

      go : (c : Option Entering) → choose P s.ws ≡ c → Turned (next P) (at_budget P) Q Ends (next P s)
      go None c = rw (c, next) q
      go (Some e) c = rw (c, next) (turn e c (step P s e) refl)

  primal_last : (s : State) → Q s → Ends (at_budget P s)
  unfolding at_budget
  primal_last s q = go (choose P s.ws)
    where
      go : (c : Option Entering) → Ends (elim c [ None ↦ ended Finished s | Some e ↦ ended Spent s ])
      go None = q
      go (Some e) = q

  pub run_keeps : (k : ℕ) (s : State) → Q s → Q (run_of P k s).state
  unfolding run_of
  run_keeps k s q = until_keeps (next P) (at_budget P) Q Ends primal_turn primal_last k s q

  module _ (by-dual : (s : State) → Q s → (l : LeavingVar) → choose_row P s.ws ≡ Some l
      → (i : PivotInfo) (t : State) → dual_step P s l ≡ moved i t → Q t) where
    dual_turn : (s : State) → Q s → Turned (dual_next P) (dual_at_budget P) Q Ends (dual_next P s)
    unfolding dual_next
    dual_turn s q = go (choose_row P s.ws) refl
      where
        turn : (l : LeavingVar) → choose_row P s.ws ≡ Some l → (o : Outcome) → dual_step P s l ≡ o
            → Turned (dual_next P) (dual_at_budget P) Q Ends (elim o [ moved i t ↦ more t | stopped w ↦ done (ended w s) ])
        turn l c (moved i t) h = by-dual s q l c i t h
        turn l c (stopped w) h = q

        go : (c : Option LeavingVar) → choose_row P s.ws ≡ c → Turned (dual_next P) (dual_at_budget P) Q Ends (dual_next P s)
        go None c = rw (c, dual_next) q
        go (Some l) c = rw (c, dual_next) (turn l c (dual_step P s l) refl)

    dual_last : (s : State) → Q s → Ends (dual_at_budget P s)
    unfolding dual_at_budget
    dual_last s q = go (choose_row P s.ws)
      where
        go : (c : Option LeavingVar) → Ends (elim c [ None ↦ ended Finished s | Some l ↦ ended Spent s ])
        go None = q
        go (Some l) = q

    then_keeps : (k : ℕ) (w : Stop) (t : State) → Q t → Ends (then_primal P k (ended w t))
    then_keeps k Finished t q = run_keeps (k - t.steps) t q
    then_keeps k Spent t q = q
    then_keeps k Unbounded t q = q
    then_keeps k NotFinite t q = q
    then_keeps k Singular t q = q
    then_keeps k (Infeasible r) t q = q

    pub both_keep : (k : ℕ) (s : State) → Q s → Q (both_runs P k s).state
    unfolding both_runs dual_run_of
    both_keep k s q =
        let e = dual_run_of P (k - s.steps) s in
        then_keeps k e.why e.state
        (until_keeps (dual_next P) (dual_at_budget P) Q Ends dual_turn dual_last (k - s.steps) s q)
