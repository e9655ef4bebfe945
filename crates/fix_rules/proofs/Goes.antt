-- A run goes by the rules' own steps to where the words of an end hold, from whatever state and steps it begins.
-- Assumes nothing.
use mathlib.Core.Path.{◌≡◌, refl}
use Prim.Native.Nat.{ℕ, zero, suc, ◌+◌, ◌-◌, ◌<◌, ◌≤◌}
use native.Mathlib.Omega.{arith}
use Rattle.doubles.specs.Loop.{until}
use Rattle.rules.specs.Plan.{Problem, State}
use Rattle.rules.specs.Choose.{choose}
use Rattle.rules.specs.DualRow.{choose_row}
use Rattle.rules.specs.Step.{Outcome, moved, stopped, step, dual_step, Ended, ended, next, at_budget, run_of, dual_next, dual_at_budget, dual_run_of, then_primal, both_runs}
use Rattle.rules.specs.Kinds.{Kind, dual, primal}
use Rattle.rules.specs.Conditions.{Ends, StopsWith, DualStopsBy}
use Rattle.rules.specs.Steps.{Steps, none, one_dual, turns, one_more}
use Rattle.rules.specs.declared.Entering.{Entering}
use Rattle.std.specs.Prelude.{Option, Some, None}
use Rattle.rules.specs.declared.LeavingVar.{LeavingVar}
use Rattle.rules.specs.declared.Stop.{Stop}
use Rattle.rules.specs.declared.Stop.TheVariants.{Finished, Spent, Unbounded, NotFinite, Singular, Infeasible}
use Rattle.rules.proofs.Stops.{step_stops}
use Rattle.rules.proofs.DualStops.{dual_stops_exactly}
use Rattle.rules.proofs.Steps.{step_counts, dual_counts}
use Rattle.fix_rules.specs.Meaning.{GoesOn}

module _ (P : Problem) (s₀ : State) (b : Kind) where
  abbrev budget : ℕ
  budget = P.plan.budget

  abbrev Goes : Ended → Type 0
  Goes e = GoesOn P s₀ b e

  here : {c : Kind} {k : ℕ} {s : State} {w : Stop} → Steps P s₀ b c k s → s.steps ≤ budget → Ends P c s w
      → Goes (ended w s)
  here {c = c} {k = k} r l h = record { kind = c; count = k; by_steps = r; within = l; ends = h }

  -- ---- primal steps
  halted : (k : ℕ) (s : State) (e : Entering) → Steps P s₀ b primal k s → choose P s.ws ≡ Some e
      → s.steps < budget → (w : Stop)
      → step P s e ≡ stopped w → Goes (ended w s)
  unfolding Ends StopsWith
  halted k s e r q h Finished z = absurd ((step_stops P s e Finished).0 z)
  halted k s e r q h Spent z = absurd ((step_stops P s e Spent).0 z)
  halted k s e r q h Unbounded z = here r (omega arith) (e, q, h, (step_stops P s e Unbounded).0 z)
  halted k s e r q h Singular z = here r (omega arith) (e, q, h, (step_stops P s e Singular).0 z)
  halted k s e r q h NotFinite z = here r (omega arith) (e, q, h, (step_stops P s e NotFinite).0 z)
  halted k s e r q h (Infeasible i) z = absurd ((step_stops P s e (Infeasible i)).0 z)

  abbrev Primal : ℕ → Type 0
  Primal n =
      (k : ℕ) (s : State) → Steps P s₀ b primal k s → s.steps + n ≡ budget → Goes (until (next P) (at_budget P) n s)

  primal_goes : (n : ℕ) → Primal n
  unfolding until next at_budget Ends
  primal_goes zero k s r h = go (choose P s.ws) refl
    where
      go : (x : Option Entering) → choose P s.ws ≡ x → Goes (until (next P) (at_budget P) 0 s)
      go None q = rw (q, at_budget) (here r (omega arith) q)
      go (Some e) q = rw (q, at_budget) (here r (omega arith) (e, q, omega arith))
  primal_goes (suc n) k s r h = go (primal_goes n) (choose P s.ws) refl
    where
      turn : Primal n → (e : Entering) → choose P s.ws ≡ Some e → (o : Outcome) → step P s e ≡ o
          → Goes (until (next P) (at_budget P) (suc n) s)
      turn rest e q (moved i t) z =
          rw (q, z, until, next) (rest (suc k) t (one_more e i r q z) (omega (arith, step_counts P s e i t z)))
      turn rest e q (stopped w) z = rw (q, z, until, next) (halted k s e r q (omega arith) w z)

      go : Primal n → (x : Option Entering) → choose P s.ws ≡ x → Goes (until (next P) (at_budget P) (suc n) s)
      go rest None q = rw (q, until, next) (here r (omega arith) q)
      go rest (Some e) q = turn rest e q (step P s e) refl

  -- ---- dual steps, and the primal ones behind them
  dual_halted : (k : ℕ) (s : State) (l : LeavingVar) → Steps P s₀ b dual k s → choose_row P s.ws ≡ Some l
      → s.steps < budget → (w : Stop)
      → dual_step P s l ≡ stopped w → Goes (then_primal P budget (ended w s))
  unfolding Ends DualStopsBy
  dual_halted k s l r q h Finished z = absurd ((dual_stops_exactly P s l Finished).0 z)
  dual_halted k s l r q h Spent z = absurd ((dual_stops_exactly P s l Spent).0 z)
  dual_halted k s l r q h Unbounded z = absurd ((dual_stops_exactly P s l Unbounded).0 z)
  dual_halted k s l r q h Singular z = here r (omega arith) (l, q, h, (dual_stops_exactly P s l Singular).0 z)
  dual_halted k s l r q h NotFinite z = here r (omega arith) (l, q, h, (dual_stops_exactly P s l NotFinite).0 z)
  dual_halted k s l r q h (Infeasible i) z =
      here r (omega arith) (l, q, h, (dual_stops_exactly P s l (Infeasible i)).0 z)

  -- no row leaves: they turn
  turned : (k : ℕ) (s : State) → Steps P s₀ b dual k s → choose_row P s.ws ≡ None → s.steps ≤ budget
      → Goes (then_primal P budget (ended Finished s))
  unfolding run_of
  turned k s r q l = primal_goes (budget - s.steps) k s (turns r q) (omega arith)

  abbrev both : ℕ → State → Ended
  both n s = then_primal P budget (until (dual_next P) (dual_at_budget P) n s)

  abbrev Dual : ℕ → Type 0
  Dual n = (k : ℕ) (s : State) → Steps P s₀ b dual k s → s.steps + n ≡ budget → Goes (both n s)

  dual_goes : (n : ℕ) → Dual n
  unfolding until dual_next dual_at_budget Ends
  dual_goes zero k s r h = go (choose_row P s.ws) refl
    where
      go : (x : Option LeavingVar) → choose_row P s.ws ≡ x → Goes (both 0 s)
      go None q = rw (q, dual_at_budget) (turned k s r q (omega arith))
      go (Some l) q = rw (q, dual_at_budget) (here r (omega arith) (l, q, omega arith))
  dual_goes (suc n) k s r h = go (dual_goes n) (choose_row P s.ws) refl
    where
      turn : Dual n → (l : LeavingVar) → choose_row P s.ws ≡ Some l → (o : Outcome) → dual_step P s l ≡ o
          → Goes (both (suc n) s)
      turn rest l q (moved i t) z =
          rw (q, z, until, dual_next) (rest (suc k) t (one_dual l i r q z) (omega (arith, dual_counts P s l i t z)))
      turn rest l q (stopped w) z = rw (q, z, until, dual_next) (dual_halted k s l r q (omega arith) w z)

      go : Dual n → (x : Option LeavingVar) → choose_row P s.ws ≡ x → Goes (both (suc n) s)
      go rest None q = rw (q, until, dual_next) (turned k s r q (omega arith))
      go rest (Some l) q = turn rest l q (dual_step P s l) refl

-- "primal steps until no column enters", with the budget from 0
pub run_goes : (P : Problem) (s : State) → s.steps ≡ 0 → GoesOn P s primal (run_of P P.plan.budget s)
unfolding run_of
run_goes P s h = primal_goes P s primal P.plan.budget 0 s none (omega arith)

-- "dual steps until no row leaves, primal steps until no column enters", with the steps that were taken before them
pub both_goes : (P : Problem) (s : State) → s.steps ≤ P.plan.budget
    → GoesOn P s dual (both_runs P P.plan.budget s)
unfolding both_runs dual_run_of
both_goes P s h = dual_goes P s dual (P.plan.budget - s.steps) 0 s none (omega arith)
