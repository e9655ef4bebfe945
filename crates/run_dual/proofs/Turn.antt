-- Dual steps, then primal ones: what the second run asks, and how the two end. Assumes nothing.
use mathlib.Core.Path.{◌≡◌, refl, sym, ap, ◌∙◌, subst}
use mathlib.Core.List.{List}
use Prim.Native.Nat.{ℕ, ◌-◌}
use lib.ListN.{length}
use lib.Ieee.{Float}
use Rattle.rules.specs.Plan.{Problem, State}
use Rattle.rules.specs.Step.{Ended, ended, run_of, dual_run_of, then_primal, both_runs}
use Rattle.rules.specs.Invariant.{Fits}
use Rattle.rules.specs.declared.Stop.{Stop}
use Rattle.rules.specs.declared.Stop.TheVariants.{Finished, Spent, Unbounded, NotFinite, Singular, Infeasible}
use Rattle.state.specs.Packed.{state_in}
use Rattle.state.specs.declared.Tally.{Tally}
use Rattle.step.proofs.Laws.{stepped_of}
use Rattle.run.specs.Ran.{ran_by}
use Rattle.run.specs.Lent.{Running}
use Rattle.run.specs.declared.Ran.{Ran}
use Rattle.run.proofs.Laws.{part, whole}
use Rattle.run.proofs.Primal.{run_part}
use Rattle.run_dual.proofs.Dual.{dual_run_part, dual_run_fits}

-- ---- a problem may stand for its part
module _ (P : Problem) (budget : ℕ) where
  then_part : (w : Stop) (s : State) → then_primal P budget (ended w s) ≡ then_primal (stepped_of P) budget (ended w s)
  then_part Finished s = run_part P (budget - s.steps) s
  then_part Spent s = refl
  then_part Unbounded s = refl
  then_part NotFinite s = refl
  then_part Singular s = refl
  then_part (Infeasible r) s = refl

  pub both_part : (s : State) → both_runs P budget s ≡ both_runs (stepped_of P) budget s
  unfolding both_runs
  both_part s =
      let e = dual_run_of (stepped_of P) (budget - s.steps) s in
      ap (then_primal P budget) (dual_run_part P (budget - s.steps) s) ∙ then_part e.why e.state

-- ---- the dual steps left M, E, H, J
module _ {n : ℕ} {lowers uppers : List Float} {starts cols : List ℕ} {coeffs : List Float} {ops kept : List ℕ}
    {N : List ℕ} {D : List Float} {F : List ℕ} {G : List Float} {t : Tally}
    (a : Running n lowers uppers starts cols coeffs ops kept N D F G t) (budget : ℕ) (r : Ran) (M : List ℕ) (E : List Float)
    (H : List ℕ) (J : List Float) where
  abbrev Q : Problem
  Q = part n lowers uppers starts cols coeffs ops kept

  abbrev s : State
  s = state_in N D F G t

  module _ (ran : ran_by r M E H J ≡ dual_run_of Q (budget - t.steps) s) where
    -- a run may go on
    pub runs_on : length M ≡ length N → length E ≡ length D
        → Running n lowers uppers starts cols coeffs ops kept M E H J r.at
    runs_on hn hd =
        let P = whole n lowers uppers starts cols coeffs ops kept a in
        let fits = dual_run_fits P a.problem_fits (budget - t.steps) s a.state_fits in
        record {
          rows = a.rows;
          entries = a.entries;
          budget = a.budget;
          tolerance = a.tolerance;
          costs = a.costs;
          rhs = a.rhs;
          sized = record { numbers_long = hn ∙ a.sized.numbers_long; doubles_long = hd ∙ a.sized.doubles_long };
          problem_fits = a.problem_fits;
          state_fits = subst (λ (e : Ended). Fits P e.state) (dual_run_part P (budget - t.steps) s ∙ sym ran) fits;
        }

    ends : then_primal Q budget (ran_by r M E H J) ≡ both_runs Q budget s
    unfolding both_runs
    ends = ap (then_primal Q budget) ran

    -- no row leaves, and the primal steps came to z
    pub both_goes : r.why ≡ Finished → (z : Ended) → z ≡ run_of Q (budget - r.at.steps) (state_in M E H J r.at)
        → z ≡ both_runs Q budget s
    both_goes q z e =
        let go : then_primal Q budget (ended Finished (state_in M E H J r.at)) ≡ both_runs Q budget s = rw q at ends in
        e ∙ go

    -- the dual steps end the run
    pub both_ends : ¬ (r.why ≡ Finished) → ran_by r M E H J ≡ both_runs Q budget s
    both_ends h = go r.why h ∙ ends
      where
        go : (w : Stop) → ¬ (w ≡ Finished)
            → let x = state_in M E H J r.at in ended w x ≡ then_primal Q budget (ended w x)
        go Finished h = absurd (h refl)
        go Spent h = refl
        go Unbounded h = refl
        go NotFinite h = refl
        go Singular h = refl
        go (Infeasible k) h = refl
