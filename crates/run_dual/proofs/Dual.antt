-- A run of dual steps: it reads only a part of its problem, what stands at its loop's head, how it ends, and that the state
-- there fits. Assumes nothing.
use mathlib.Core.Path.{◌≡◌, refl, sym, ◌∙◌}
use mathlib.Core.List.{List}
use Prim.Native.Nat.{ℕ, zero, suc, ◌-◌, ◌<◌, ◌≤◌}
use lib.ListN.{length}
use lib.Ieee.{Float}
use Rattle.doubles.specs.Loop.{until, done, more}
use Rattle.rules.specs.Plan.{Problem, State}
use Rattle.rules.specs.DualRow.{choose_row}
use Rattle.rules.specs.DualRatio.{leaving_rises, eligible}
use Rattle.rules.specs.Step.{Outcome, dual_step, moved, stopped, Ended, ended, dual_next, dual_at_budget, dual_run_of}
use Rattle.rules.specs.Invariant.{ProblemFits, Fits}
use Rattle.rules.specs.declared.LeavingVar.{LeavingVar}
use Rattle.std.specs.Prelude.{Option, Some, None, Result, Ok, Err}
use Rattle.rules.specs.declared.Stop.{Stop}
use Rattle.rules.specs.declared.Stop.TheVariants.{Finished, Spent}
use Rattle.rules.proofs.DualLeaving.{leaves_below}
use Rattle.rules.proofs.Keeps.{dual_fits}
use Rattle.step_leaving.specs.Lent.{Leaving}
use Rattle.cells.proofs.Parts.{bounds_of}
use Rattle.step_leaving.proofs.Parts.{choose_row_part}
use Rattle.step_leaving.proofs.Fits.{leaving}
use Rattle.state.specs.Packed.{packed, state_in, Sized}
use Rattle.state.specs.declared.Tally.{Tally}
use Rattle.step_refactor.specs.Left.{after, left_by}
use Rattle.step.proofs.Laws.{stepped_of}
use Rattle.step_dual.proofs.Laws.{dual_step_part, dual_moved_fits}
use Rattle.run.proofs.Laws.{Going, part, whole, going_ends, going_spends, going_halts, going_moves, going_goes}

-- ---- a problem may stand for its part
module _ (P : Problem) where
  row_same : (s : State) → choose_row P s.ws ≡ choose_row (stepped_of P) s.ws
  row_same s = choose_row_part P s.ws ∙ sym (choose_row_part (stepped_of P) s.ws)

  pub dual_run_part : (budget : ℕ) (s : State) → dual_run_of P budget s ≡ dual_run_of (stepped_of P) budget s
  unfolding dual_run_of dual_next dual_at_budget
  dual_run_part budget s = λ i.
      until
      (λ t. elim (row_same t i) [
        | None ↦ done (ended Finished t)
        | Some l ↦ elim (dual_step_part (eligible (leaving_rises t.ws l)) P t l i) [ moved j u ↦ more u | stopped w ↦ done (ended w t) ]
      ])
      (λ t. elim (row_same t i) [ None ↦ ended Finished t | Some l ↦ ended Spent t ])
      budget s

-- ---- where a run of dual steps ends the state fits
module _ (P : Problem) (p : ProblemFits P) where
  abbrev Kept : Ended → Type 0
  Kept e = Fits P e.state

  abbrev Rest : ℕ → Type 0
  Rest k = (s : State) → Fits P s → Kept (dual_run_of P k s)

  pub dual_run_fits : (k : ℕ) → Rest k
  unfolding dual_run_of until dual_next dual_at_budget
  dual_run_fits zero s f = go (choose_row P s.ws) refl
    where
      go : (c : Option LeavingVar) → choose_row P s.ws ≡ c → Kept (dual_at_budget P s)
      go None c = rw (c, dual_at_budget) f
      go (Some l) c = rw (c, dual_at_budget) f
  dual_run_fits (suc k) s f = go (dual_run_fits k) (choose_row P s.ws) refl
    where
      turn : Rest k → (l : LeavingVar) → choose_row P s.ws ≡ Some l → (o : Outcome) → dual_step P s l ≡ o
          → Kept (until (dual_next P) (dual_at_budget P) (suc k) s)
      turn rest l c (moved i t) q = rw (c, q, until, dual_next) (rest t (dual_fits P p s f l (leaves_below P s.ws l c) i t q))
      turn rest l c (stopped w) q = rw (c, q, until, dual_next) f

      go : Rest k → (c : Option LeavingVar) → choose_row P s.ws ≡ c → Kept (until (dual_next P) (dual_at_budget P) (suc k) s)
      go rest None c = rw (c, until, dual_next) f
      go rest (Some l) c = turn rest l c (dual_step P s l) refl

-- ---- what stands at the loop's head
module _ {n : ℕ} {lowers uppers : List Float} {starts cols : List ℕ} {coeffs : List Float} {ops kept : List ℕ}
    {budget : ℕ} {N₀ : List ℕ} {D₀ : List Float} {F₀ : List ℕ} {G₀ : List Float} {t₀ : Tally}
    {N : List ℕ} {D : List Float} {F : List ℕ} {G : List Float} {t : Tally}
    (g : Going dual_next dual_at_budget n lowers uppers starts cols coeffs ops kept budget N₀ D₀ F₀ G₀ t₀ N D F G t) where
  abbrev Q : Problem
  Q = part n lowers uppers starts cols coeffs ops kept

  abbrev P : Problem
  P = whole n lowers uppers starts cols coeffs ops kept g.running

  abbrev s : State
  s = state_in N D F G t

  abbrev whole_run : Ended
  whole_run = dual_run_of Q (budget - t₀.steps) (state_in N₀ D₀ F₀ G₀ t₀)

  -- what the choice asks
  pub chooses_asks : Sized N D × Leaving (bounds_of Q) (packed N D)
  chooses_asks = (g.running.sized, leaving g.running.problem_fits g.running.state_fits)

  -- the choice, in the definition's words
  module _ (x : Option LeavingVar) (chosen : x ≡ choose_row (bounds_of Q) (packed N D)) where
    chooses : (y : Option LeavingVar) → x ≡ y → choose_row Q s.ws ≡ y
    chooses y q = choose_row_part Q s.ws ∙ sym (choose_row_part (bounds_of Q) s.ws) ∙ sym chosen ∙ q

    -- no row leaves
    pub finishes : x ≡ None → ended Finished s ≡ whole_run
    unfolding dual_run_of dual_next dual_at_budget
    finishes q =
        going_ends g (ended Finished s) (rw (chooses None q, dual_next) refl) (rw (chooses None q, dual_at_budget) refl)

    module _ (v : LeavingVar) (q : x ≡ Some v) where
      -- the row is one
      pub row_below : v.row < length kept
      row_below = leaves_below Q s.ws v (chooses (Some v) q)

      -- budget spent and a row would leave
      pub spends : budget ≤ t.steps → ended Spent s ≡ whole_run
      unfolding dual_run_of dual_at_budget
      spends l = going_spends g l (ended Spent s) (rw (chooses (Some v) q, dual_at_budget) refl)

      module _ (l : t.steps < budget) (r : Result Tally Stop) (M : List ℕ) (E : List Float) (H : List ℕ) (J : List Float)
          (left : left_by r M E H J ≡ after s (dual_step Q s v)) where
        -- a step that gives no state
        pub halts : (why : Stop) → r ≡ Err why → ended why (state_in M E H J t) ≡ whole_run
        unfolding dual_run_of dual_next
        halts why f =
            going_halts g l (dual_step Q s v) r M E H J left why f (λ o. rw (chooses (Some v) q, o, dual_next) refl)

        -- one that does
        module _ (u : Tally) (f : r ≡ Ok u) where
          fits_after : Fits P (state_in M E H J u) × (u.steps ≡ suc t.steps)
          fits_after =
              dual_moved_fits P g.running.problem_fits s g.running.state_fits v (row_same P s ∙ chooses (Some v) q)
              (state_in M E H J u) (rw f at left)

          -- the step is counted
          pub counts : u.steps ≡ suc t.steps
          counts = fits_after.1

          pub goes_on : length M ≡ length N → length E ≡ length D → length H ≡ length F → length J ≡ length G
              → Going dual_next dual_at_budget n lowers uppers starts cols coeffs ops kept budget N₀ D₀ F₀ G₀ t₀ M E H J u
          unfolding dual_next
          goes_on =
              let m = going_moves g l (dual_step Q s v) r M E H J left u f in
              going_goes g l (dual_step Q s v) r M E H J left u f (rw (chooses (Some v) q, m.1, dual_next) refl) counts
              fits_after.0
