-- What a run of either kind keeps from step to step, and how it ends. No contract cites this file. Assumes nothing.
use mathlib.Core.Path.{◌≡◌, refl, sym, ◌∙◌}
use mathlib.Core.List.{List}
use Prim.Native.Nat.{ℕ, zero, suc, ◌-◌, ◌<◌, ◌≤◌}
use native.Mathlib.Omega.{arith}
use lib.ListN.{length}
use lib.Ieee.{Float}
use Rattle.doubles.specs.Limits.{max_budget}
use Rattle.doubles.specs.Loop.{until, Next, done, more}
use Rattle.doubles.proofs.Loops as Loops
use Rattle.rules.specs.Plan.{Problem, Workspace, State}
use Rattle.rules.specs.Parts.{plan_of, problem, factored_of, state_with}
use Rattle.rules.specs.Step.{Outcome, moved, stopped, Ended, ended}
use Rattle.rules.specs.Invariant.{Fits}
use Rattle.rules.specs.declared.PivotInfo.{PivotInfo}
use Rattle.rules.specs.declared.Stop.{Stop}
use Rattle.state.specs.Packed.{state_in}
use Rattle.state.specs.declared.Tally.{Tally}
use Rattle.step_refactor.specs.Left.{after, left_by, stepped}
use Rattle.step_refactor.specs.Lent.{Ready}
use Rattle.std.specs.Prelude.{Result, Ok, Err}
use Rattle.step.proofs.Laws.{moves_on, stops_at}
use Rattle.run.specs.Lent.{Running}

-- ---- arrays that are the same make the same end
state_same : {w v : Workspace} {F H : List ℕ} {G J : List Float} (t : Tally) (why : Stop) → w ≡ v → F ≡ H → G ≡ J
    → ended why (state_with w t.eta_count t.objective t.steps (factored_of t.factored t.factorings F G))
    ≡ ended why (state_with v t.eta_count t.objective t.steps (factored_of t.factored t.factorings H J))
state_same t why a b c = rw (a, b, c)

module _ (n : ℕ) (lowers uppers : List Float) (starts cols : List ℕ) (coeffs : List Float) (ops kept : List ℕ) where
  abbrev pub part : Problem
  part = stepped n lowers uppers starts cols coeffs ops kept

  -- the problem of which a run is lent its part
  abbrev pub whole : {N : List ℕ} {D : List Float} {F : List ℕ} {G : List Float} {t : Tally}
      → Running n lowers uppers starts cols coeffs ops kept N D F G t → Problem
  whole r =
      problem (plan_of n r.rows r.entries r.budget r.tolerance r.costs lowers uppers starts cols coeffs ops
      r.rhs) kept

-- ---- what stands at a loop's head, by one kind of step
module _ (turn : Problem → State → Next State Ended) (last : Problem → State → Ended) (n : ℕ) (lowers uppers : List Float)
    (starts cols : List ℕ) (coeffs : List Float) (ops kept : List ℕ) where
  abbrev pub runs : ℕ → State → Ended
  runs k s = let Q = part n lowers uppers starts cols coeffs ops kept in until (turn Q) (last Q) k s

  -- from where the arrays stand the run goes on to where it ends from N₀, D₀, F₀, G₀ and t₀
  pub record Going (budget : ℕ) (N₀ : List ℕ) (D₀ : List Float) (F₀ : List ℕ) (G₀ : List Float) (t₀ : Tally)
      (N : List ℕ) (D : List Float) (F : List ℕ) (G : List Float) (t : Tally) : Type 0 where
    pub running : Running n lowers uppers starts cols coeffs ops kept N D F G t
    pub numbers_kept : length N ≡ length N₀
    pub doubles_kept : length D ≡ length D₀
    pub factor_numbers_kept : length F ≡ length F₀
    pub factor_coeffs_kept : length G ≡ length G₀
    pub rest : Loops.Until (turn (part n lowers uppers starts cols coeffs ops kept))
        (last (part n lowers uppers starts cols coeffs ops kept)) (runs (budget - t₀.steps) (state_in N₀ D₀ F₀ G₀ t₀))
        (budget - t.steps) (state_in N D F G t)

module _ {turn : Problem → State → Next State Ended} {last : Problem → State → Ended} {n : ℕ} {lowers uppers : List Float}
    {starts cols : List ℕ} {coeffs : List Float} {ops kept : List ℕ} {budget : ℕ} {N₀ : List ℕ} {D₀ : List Float}
    {F₀ : List ℕ} {G₀ : List Float} {t₀ : Tally} where
  pub going_start : Running n lowers uppers starts cols coeffs ops kept N₀ D₀ F₀ G₀ t₀
      → Going turn last n lowers uppers starts cols coeffs ops kept budget N₀ D₀ F₀ G₀ t₀ N₀ D₀ F₀ G₀ t₀
  going_start r =
      record {
        running = r;
        numbers_kept = refl;
        doubles_kept = refl;
        factor_numbers_kept = refl;
        factor_coeffs_kept = refl;
        rest = record { until_rest = refl };
      }

  module _ {N : List ℕ} {D : List Float} {F : List ℕ} {G : List Float} {t : Tally}
      (g : Going turn last n lowers uppers starts cols coeffs ops kept budget N₀ D₀ F₀ G₀ t₀ N D F G t) where
    abbrev Q : Problem
    Q = part n lowers uppers starts cols coeffs ops kept

    abbrev P : Problem
    P = whole n lowers uppers starts cols coeffs ops kept g.running

    abbrev s : State
    s = state_in N D F G t

    abbrev whole_run : Ended
    whole_run = runs turn last n lowers uppers starts cols coeffs ops kept (budget - t₀.steps) (state_in N₀ D₀ F₀ G₀ t₀)

    -- what a step asks
    pub going_steps : t.steps < budget → budget ≤ max_budget
        → Ready n lowers uppers starts cols coeffs ops kept N D F G t
    going_steps l m =
        let r = g.running in
        record {
          rows = r.rows;
          entries = r.entries;
          budget = r.budget;
          tolerance = r.tolerance;
          costs = r.costs;
          rhs = r.rhs;
          sized = r.sized;
          problem_fits = r.problem_fits;
          state_fits = r.state_fits;
          budget_left = omega arith;
        }

    -- no step is called for
    pub going_ends : (a : Ended) → turn Q s ≡ done a → last Q s ≡ a → a ≡ whole_run
    going_ends a e f = go (budget - t.steps) g.rest
      where
        go : (k : ℕ) → Loops.Until (turn Q) (last Q) whole_run k s → a ≡ whole_run
        go zero r = sym f ∙ Loops.spent r refl
        go (suc k) r = Loops.stopped r (omega arith) e

    -- one is, and the budget is spent
    pub going_spends : budget ≤ t.steps → (a : Ended) → last Q s ≡ a → a ≡ whole_run
    going_spends l a f = sym f ∙ Loops.spent g.rest (omega arith)

    -- a step
    module _ (l : t.steps < budget) (o : Outcome) (r : Result Tally Stop) (M : List ℕ) (E : List Float) (H : List ℕ) (J : List Float)
        (left : left_by r M E H J ≡ after s o) where
      -- that gives no state
      pub going_halts : (why : Stop) → r ≡ Err why → (o ≡ stopped why → turn Q s ≡ done (ended why s))
          → ended why (state_in M E H J t) ≡ whole_run
      going_halts why f e =
          let a = stops_at s o why _ H J (rw f at left) in
          state_same t why a.1 a.2 a.3 ∙ Loops.stopped g.rest (omega arith) (e a.0)

      -- or one
      module _ (u : Tally) (f : r ≡ Ok u) where
        pub going_moves : (i : PivotInfo) × (o ≡ moved i (state_in M E H J u))
        going_moves = moves_on s o (state_in M E H J u) (rw f at left)

        pub going_goes : turn Q s ≡ more (state_in M E H J u) → u.steps ≡ suc t.steps → Fits P (state_in M E H J u)
            → length M ≡ length N → length E ≡ length D → length H ≡ length F → length J ≡ length G
            → Going turn last n lowers uppers starts cols coeffs ops kept budget N₀ D₀ F₀ G₀ t₀ M E H J u
        going_goes e c fits hn hd hf hg =
            let r = g.running in
            let fewer : budget - t.steps - 1 ≡ budget - u.steps = omega (arith, c) in
            record {
              running = record {
                rows = r.rows;
                entries = r.entries;
                budget = r.budget;
                tolerance = r.tolerance;
                costs = r.costs;
                rhs = r.rhs;
                sized = record { numbers_long = hn ∙ r.sized.numbers_long; doubles_long = hd ∙ r.sized.doubles_long };
                problem_fits = r.problem_fits;
                state_fits = fits;
              };
              numbers_kept = hn ∙ g.numbers_kept;
              doubles_kept = hd ∙ g.doubles_kept;
              factor_numbers_kept = hf ∙ g.factor_numbers_kept;
              factor_coeffs_kept = hg ∙ g.factor_coeffs_kept;
              rest = rw fewer at (Loops.stepped g.rest (omega arith) e);
            }
