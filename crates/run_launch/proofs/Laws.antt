-- What the calls of `launch` ask, how it ends, and what that is to the whole solve. Assumes nothing.
use mathlib.Core.Path.{◌≡◌, refl, sym, ap, ◌∙◌, subst}
use mathlib.Core.Bool.{Bool, true, false}
use mathlib.Core.List.{List, []}
use Prim.Native.Nat.{ℕ, ◌-◌, ◌≤◌}
use native.Mathlib.Omega.{arith}
use lib.ListN.{length}
use lib.Ieee.{Float}
use Rattle.lu_factor_rules.specs.Packed.{all_factor_numbers, all_factor_coeffs}
use Rattle.rules.specs.Plan.{Problem, Workspace, State, Memory, n_of, m_of}
use Rattle.rules.specs.Parts.{plan_of, problem, memory_of}
use Rattle.rules.specs.Start.{dual_feasible, start_state}
use Rattle.rules.specs.Step.{Ended, run_of, both_runs}
use Rattle.rules.specs.Solve.{end_of}
use Rattle.rules.specs.Invariant.{ProblemFits, Lengths, Fits}
use Rattle.rules.proofs.Start.{start_fits}
use Rattle.state.specs.Packed.{packed, state_in, Sized}
use Rattle.state.specs.declared.Tally.{Tally}
use Rattle.basis_columns.specs.Columns.{Matrix, Valued}
use Rattle.basis_columns.proofs.Callers.{matrix_of, matrix_fits, values_fit}
use Rattle.start.specs.Lent.{Scratch}
use Rattle.start.specs.Reckoned.{Numbers, reckoned, written}
use Rattle.start.proofs.Parts.{unruled_of, reckoned_part}
use Rattle.start.proofs.Start.{still_long, start_is}
use Rattle.step.proofs.Laws.{stepped_of}
use Rattle.run.specs.Lent.{Running}
use Rattle.run.proofs.Primal.{run_part}
use Rattle.run_dual.proofs.Turn.{both_part}
use Rattle.run_launch.specs.Launched.{launched_of, first_state, gone_on, launched, Launches}

-- ---- `go_on`
module _ {n : ℕ} {lowers uppers : List Float} {starts cols : List ℕ} {coeffs : List Float} {ops kept N : List ℕ}
    {D : List Float} {F : List ℕ} {G : List Float} {t : Tally}
    (r : Running n lowers uppers starts cols coeffs ops kept N D F G t) where
  -- the problem of which a part is lent
  abbrev whole : Problem
  whole =
      problem (plan_of n r.rows r.entries r.budget r.tolerance r.costs lowers uppers starts cols coeffs ops
      r.rhs) kept

  pub transposes : Matrix (matrix_of whole) × Valued (matrix_of whole)
  transposes = (matrix_fits whole r.problem_fits, values_fit whole r.problem_fits)

-- a run reads only a part of its problem
gone_on_part : (P : Problem) (dual : Bool) (budget : ℕ) (s : State) → gone_on P dual budget s ≡ gone_on (stepped_of P) dual budget s
unfolding gone_on
gone_on_part P true budget s = both_part P budget s
gone_on_part P false budget s = run_part P (budget - s.steps) s

module _ (Q : Problem) (budget : ℕ) (s : State) (r : Ended) where
  pub goes_both : (dual : Bool) → dual ≡ true → r ≡ both_runs Q budget s → r ≡ gone_on Q dual budget s
  unfolding gone_on
  goes_both dual d f = rw (d, gone_on) f

  pub goes_primal : (dual : Bool) → dual ≡ false → r ≡ run_of Q (budget - s.steps) s → r ≡ gone_on Q dual budget s
  unfolding gone_on
  goes_primal dual d f = rw (d, gone_on) f

-- ---- `launch`, after the first state is written
module _ (P : Problem) (budget : ℕ) (u : Numbers) (w : Workspace) (M : List ℕ) (E : List Float) (F : List ℕ)
    (G : List Float) (t : Tally) (e : state_in M E F G t ≡ first_state P u w F G) where
  pub ends_after : (dual : Bool) → dual ≡ dual_feasible P.plan → (r : Ended) → r ≡ gone_on (stepped_of P) dual budget (state_in M E F G t)
      → r ≡ launched P budget (first_state P u w F G)
  unfolding launched
  ends_after dual d r f =
      f ∙ sym (gone_on_part P dual budget (state_in M E F G t)) ∙ ap (gone_on P dual budget) e
      ∙ ap (λ (b : Bool). gone_on P b budget (first_state P u w F G)) d

-- ---- for the caller: `launch` is lent a part of the problem
abbrev pub launched_by : Problem → Problem
launched_by P = let p = P.plan in launched_of p.columns p.costs p.lowers p.uppers p.starts p.cols p.coeffs p.ops P.kept

module _ (P : Problem) (s u : Numbers) (e : u ≡ reckoned P s) where
  reckons : u ≡ reckoned (unruled_of P) s
  reckons = e ∙ reckoned_part P s

  -- the first state is the start's
  first_start : (m : Memory) → first_state (launched_by P) u m.ws m.all_factor_numbers m.all_factor_coeffs ≡ start_state P m
  first_start m = start_is P s u reckons m

  launched_part : (budget : ℕ) (t : State) → launched (launched_by P) budget t ≡ launched P budget t
  unfolding launched dual_feasible
  launched_part budget t =
      let b = dual_feasible P.plan in
      gone_on_part (launched_by P) b budget t ∙ sym (gone_on_part P b budget t)

  -- no step is taken at the start, so the whole budget is left
  launched_is : (m : Memory) → launched P P.plan.budget (start_state P m) ≡ end_of P m
  unfolding launched gone_on end_of start_state
  launched_is m = go (dual_feasible P.plan)
    where
      go : (b : Bool) → gone_on P b P.plan.budget (start_state P m)
          ≡ elim b [ true ↦ both_runs P P.plan.budget (start_state P m) | false ↦ run_of P P.plan.budget (start_state P m) ]
      go true = refl
      go false = let all : P.plan.budget - 0 ≡ P.plan.budget = omega arith in ap (λ (k : ℕ). run_of P k (start_state P m)) all

  -- the launch comes to the definition's end
  pub launched_end : (m : Memory) (r : Ended)
      → r ≡ launched (launched_by P) P.plan.budget
      (first_state (launched_by P) u m.ws m.all_factor_numbers m.all_factor_coeffs) → r ≡ end_of P m
  launched_end m r f =
      f ∙ ap (launched (launched_by P) P.plan.budget) (first_start m) ∙ launched_part P.plan.budget (start_state P m) ∙ launched_is m

  -- and what it asks
  pub fits_launch : ProblemFits P → Scratch (n_of P) (m_of P) s.vals s.slacks s.norms
      → (N : List ℕ) (D : List Float) (F : List ℕ) (G : List Float) → Sized N D → Lengths P (packed N D)
      → all_factor_numbers ≤ length F → all_factor_coeffs ≤ length G → Launches (launched_by P) P.plan.budget u N D F G
  fits_launch f k N D F G z l a b =
      let p = f.plan in
      let m = memory_of [] [] (packed N D) [] [] F G in
      record {
        columns_most = p.columns_most;
        rows_most = omega (arith, f.few, p.rows_most);
        columns = record { costs_long = p.costs_long; lowers_long = p.lowers_long; uppers_long = p.uppers_long };
        scratch = still_long P s u reckons k;
        sized = z;
        ready = λ M E t y q.
            record {
              rows = P.plan.rows;
              entries = P.plan.entries;
              budget = P.plan.budget;
              tolerance = P.plan.tolerance;
              costs = P.plan.costs;
              rhs = P.plan.rhs;
              sized = y;
              problem_fits = f;
              state_fits = subst (Fits P) (sym (q ∙ first_start m)) (start_fits P m l a b);
            };
        budget_most = p.budget_most;
      }
