-- A run of primal steps: it reads only a part of its problem, what stands at its loop's head, and how it ends. Assumes nothing.
use mathlib.Core.Path.{◌≡◌, refl, sym, ◌∙◌}
use mathlib.Core.List.{List}
use Prim.Native.Nat.{ℕ, suc, ◌-◌, ◌<◌, ◌≤◌}
use lib.ListN.{length}
use lib.Ieee.{Float}
use Rattle.doubles.specs.Loop.{until, done, more}
use Rattle.rules.specs.Plan.{Problem, State}
use Rattle.rules.specs.Choose.{choose}
use Rattle.rules.specs.Step.{step, moved, stopped, Ended, ended, next, at_budget, run_of}
use Rattle.rules.specs.Invariant.{Fits}
use Rattle.rules.specs.declared.Entering.{Entering}
use Rattle.std.specs.Prelude.{Option, Some, None, Result, Ok, Err}
use Rattle.rules.specs.declared.Stop.{Stop}
use Rattle.rules.specs.declared.Stop.TheVariants.{Finished, Spent}
use Rattle.rules.proofs.Moved.{enters_below}
use Rattle.step_choose.specs.Lent.{Choosing}
use Rattle.cells.proofs.Parts.{bounds_of}
use Rattle.step_choose.proofs.Parts.{choose_part}
use Rattle.step_choose.proofs.Fits.{choosing}
use Rattle.state.specs.Packed.{packed, state_in, Sized}
use Rattle.state.specs.declared.Tally.{Tally}
use Rattle.step_refactor.specs.Left.{after, left_by}
use Rattle.step.proofs.Laws.{stepped_of, step_part, moved_fits}
use Rattle.run.proofs.Laws.{Going, part, whole, going_ends, going_spends, going_halts, going_moves, going_goes}

-- ---- a problem may stand for its part
module _ (P : Problem) where
  choose_same : (s : State) → choose P s.ws ≡ choose (stepped_of P) s.ws
  choose_same s = choose_part P s.ws ∙ sym (choose_part (stepped_of P) s.ws)

  pub run_part : (budget : ℕ) (s : State) → run_of P budget s ≡ run_of (stepped_of P) budget s
  unfolding run_of next at_budget
  run_part budget s = λ i.
      until
      (λ t. elim (choose_same t i) [
        | None ↦ done (ended Finished t)
        | Some e ↦ elim (step_part P t e i) [ moved j u ↦ more u | stopped w ↦ done (ended w t) ]
      ])
      (λ t. elim (choose_same t i) [ None ↦ ended Finished t | Some e ↦ ended Spent t ])
      budget s

-- ---- what stands at the loop's head
module _ {n : ℕ} {lowers uppers : List Float} {starts cols : List ℕ} {coeffs : List Float} {ops kept : List ℕ}
    {budget : ℕ} {N₀ : List ℕ} {D₀ : List Float} {F₀ : List ℕ} {G₀ : List Float} {t₀ : Tally}
    {N : List ℕ} {D : List Float} {F : List ℕ} {G : List Float} {t : Tally}
    (g : Going next at_budget n lowers uppers starts cols coeffs ops kept budget N₀ D₀ F₀ G₀ t₀ N D F G t) where
  abbrev Q : Problem
  Q = part n lowers uppers starts cols coeffs ops kept

  abbrev P : Problem
  P = whole n lowers uppers starts cols coeffs ops kept g.running

  abbrev s : State
  s = state_in N D F G t

  abbrev whole_run : Ended
  whole_run = run_of Q (budget - t₀.steps) (state_in N₀ D₀ F₀ G₀ t₀)

  -- what the choice asks
  pub chooses_asks : Sized N D × Choosing (bounds_of Q) (packed N D)
  chooses_asks = (g.running.sized, choosing g.running.problem_fits g.running.state_fits)

  -- the choice, in the definition's words
  module _ (x : Option Entering) (chosen : x ≡ choose (bounds_of Q) (packed N D)) where
    chooses : (y : Option Entering) → x ≡ y → choose Q s.ws ≡ y
    chooses y q = choose_part Q s.ws ∙ sym (choose_part (bounds_of Q) s.ws) ∙ sym chosen ∙ q

    -- "entering column (none: final check)"
    pub finishes : x ≡ None → ended Finished s ≡ whole_run
    unfolding run_of next at_budget
    finishes q =
        going_ends g (ended Finished s) (rw (chooses None q, next) refl) (rw (chooses None q, at_budget) refl)

    module _ (e : Entering) (q : x ≡ Some e) where
      -- the column is one
      pub column_below : e.col < n
      column_below = enters_below Q s.ws e (chooses (Some e) q)

      -- "budget spent and a column would enter"
      pub spends : budget ≤ t.steps → ended Spent s ≡ whole_run
      unfolding run_of at_budget
      spends l = going_spends g l (ended Spent s) (rw (chooses (Some e) q, at_budget) refl)

      module _ (l : t.steps < budget) (r : Result Tally Stop) (M : List ℕ) (E : List Float) (H : List ℕ) (J : List Float)
          (left : left_by r M E H J ≡ after s (step Q s e)) where
        -- a step that gives no state
        pub halts : (why : Stop) → r ≡ Err why → ended why (state_in M E H J t) ≡ whole_run
        unfolding run_of next
        halts why f =
            going_halts g l (step Q s e) r M E H J left why f (λ o. rw (chooses (Some e) q, o, next) refl)

        -- one that does
        module _ (u : Tally) (f : r ≡ Ok u) where
          fits_after : Fits P (state_in M E H J u) × (u.steps ≡ suc t.steps)
          fits_after =
              moved_fits P g.running.problem_fits s g.running.state_fits e (choose_same P s ∙ chooses (Some e) q)
              (state_in M E H J u) (rw f at left)

          -- the step is counted
          pub counts : u.steps ≡ suc t.steps
          counts = fits_after.1

          pub goes_on : length M ≡ length N → length E ≡ length D → length H ≡ length F → length J ≡ length G
              → Going next at_budget n lowers uppers starts cols coeffs ops kept budget N₀ D₀ F₀ G₀ t₀ M E H J u
          unfolding next
          goes_on =
              let m = going_moves g l (step Q s e) r M E H J left u f in
              going_goes g l (step Q s e) r M E H J left u f (rw (chooses (Some e) q, m.1, next) refl) counts fits_after.0
