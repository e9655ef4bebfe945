-- What the calls of `solve` ask once 1 to 5 have passed, and how each way through it ends. No contract cites this file.
-- Assumes nothing.
use mathlib.Core.Path.{◌≡◌, sym, ap, ◌∙◌, subst}
use mathlib.Core.List.{List, [], ◌++◌}
use Prim.Native.Nat.{ℕ, ◌<◌, ◌≤◌}
use native.Mathlib.Omega.{arith}
use lib.ListN.{length, take, drop, replicate}
use lib.Seq.{length-take-le}
use lib.Ieee.{Float}
use Rattle.doubles.specs.Num.{f0}
use Rattle.doubles.specs.Limits.{max_columns, max_rows}
use Rattle.rules.specs.Plan.{Plan, Problem, Memory, Workspace, problem_of, kept_rows, n_of, m_of}
use Rattle.rules.specs.Parts.{plan_of, problem, factored_of, state_with}
use Rattle.rules.specs.Start.{start_state}
use Rattle.rules.specs.Step.{Ended, ended}
use Rattle.rules.specs.Solve.{Solved, memory_after, close, end_of, solve_plan}
use Rattle.rules.specs.Invariant.{ProblemFits, MemoryFits, Lengths, Fits}
use Rattle.rules.specs.declared.Answer.{Answer}
use Rattle.rules.proofs.Lengths.{memory_fits, lent_long}
use Rattle.rules.proofs.Start.{start_fits, passed_fits}
use Rattle.rules.proofs.Steps.{steps_fit, end_reached}
use Rattle.state.specs.Packed.{packed, state_in, kept_at, objective_at}
use Rattle.state.specs.Memory.{memory_in, Past, past_of, Handed, handed, answered}
use Rattle.state.proofs.Memory.{front_packed, front_sized, front_same, after_sized, after_long, after_memory, after_past}
use Rattle.plan.specs.Lent.{rows_of, Front}
use Rattle.std.specs.Prelude.{Some, None, Result, Err, Ok}
use Rattle.plan.proofs.Parts.{kept_part}
use Rattle.plan.proofs.Fits.{front_taken}
use Rattle.plan.proofs.Ladder.{from_six, solved_by}
use Rattle.start.specs.Lent.{Scratch}
use Rattle.start.specs.Reckoned.{Numbers, numbers, reckoned}
use Rattle.check_final.proofs.Parts.{checked_by}
use Rattle.start_gate.specs.Lent.{Passed}
use Rattle.start_gate.specs.Gate as Gate
use Rattle.start_gate.specs.Gate.{refused, filled, refusal_by, begun, begun_by}
use Rattle.start_gate.proofs.Gate.{Accepted, accepted, solved_by_holds, begun_part, start_refused, start_filled}
use Rattle.start_gate.proofs.Long.{Long, arrays_long}
use Rattle.run.specs.Ran.{ran_by}
use Rattle.run.specs.declared.Ran.{Ran}
use Rattle.run_launch.specs.Launched.{first_state, launched, Launches}
use Rattle.run_launch.proofs.Laws.{launched_by, launched_end, fits_launch}
use Rattle.check_close.specs.Lent.{Closes}
use Rattle.check_close.proofs.Laws.{close_whole, fits_close}

-- 1 to 5
pub refuses : (p : Plan) (v : List Float) (N : List ℕ) (D : List Float) (F : List ℕ) (G : List Float) (a : Answer)
    → Some a ≡ refusal_by p (memory_in v N D F G)
    → answered a v N D F G ≡ handed (solve_plan p (memory_in v N D F G)) (past_of N D)
refuses p v N D F G a e =
    let m = memory_in v N D F G in
    ap (λ (r : Solved). handed r (past_of N D)) (ap (solved_by p m) e ∙ sym (solved_by_holds p m))

-- what `begin` answered, with the scratch as it left it
module _ (r : Result Float Answer) (xs slacks norms : List Float) (g : Gate.Scratch) (e : begun_by r xs slacks norms ≡ g) where
  pub was_refused : (a : Answer) → r ≡ Err a → refused a ≡ g
  was_refused a q = ap (λ (x : Result Float Answer). begun_by x xs slacks norms) (sym q) ∙ e

  pub was_filled : (o : Float) → r ≡ Ok o → filled (numbers xs slacks norms o) ≡ g
  was_filled o q = ap (λ (x : Result Float Answer). begun_by x xs slacks norms) (sym q) ∙ e

-- the scratch at first
abbrev pub blank : Numbers
blank = numbers (replicate max_columns f0) (replicate max_rows f0) (replicate max_columns f0) f0

module _ (p : Plan) (v : List Float) (N : List ℕ) (D : List Float) (F : List ℕ) (G : List Float)
    (ok : None ≡ refusal_by p (memory_in v N D F G)) where
  abbrev m : Memory
  m = memory_in v N D F G

  passed : Accepted p m
  passed = accepted p m ok

  fits_all : ProblemFits (problem_of p)
  fits_all = passed_fits p m passed.passes_1 passed.passes_2 passed.passes_3

  lent_all : MemoryFits p m
  lent_all = memory_fits p m passed.passes_1

  long : Long p v N D F G fits_all.plan.columns_most fits_all.plan.rows_most
  long = arrays_long p v N D F G fits_all.plan.columns_most fits_all.plan.rows_most passed.lent

  pub fronts_inside : (kept_at ≤ length N) × (objective_at ≤ length D)
  fronts_inside = (omega (arith, long.numbers), omega (arith, long.doubles))

  from_six_holds : from_six p m ≡ solve_plan p m
  from_six_holds = ap (solved_by p m) ok ∙ sym (solved_by_holds p m)

  pub keeps_asks : (p.rows < length p.starts) × (p.rows ≤ max_rows)
  keeps_asks = (omega (arith, fits_all.plan.starts_long), fits_all.plan.rows_most)

  -- the kept rows' numbers stand at the front of the scratch ks
  module _ (l : List ℕ) (k : ℕ) (ks : List ℕ) (f : Front (kept_rows (rows_of 0 p.rows p.starts [])) l k ks) where
    -- the problem with the front that is lent
    abbrev pub P : Problem
    P = problem p (take k ks)

    same : P ≡ problem_of p
    same = ap (problem p) (front_taken f ∙ sym (kept_part p))

    fits : ProblemFits P
    fits = subst ProblemFits (sym same) fits_all

    lengths : Lengths P m.ws
    lengths = subst (λ (Q : Problem). Lengths Q m.ws) (sym same) (lent_long p m lent_all fits_all)

    pub front_inside : length ks ≡ max_rows → k ≤ length ks
    front_inside e = omega (arith, f.counted, ap length (kept_part p), fits_all.few, fits_all.plan.rows_most)

    pub front_long : length ks ≡ max_rows → k ≡ length (take k ks)
    front_long e = sym (length-take-le k ks (front_inside e))

    scratch : Scratch (n_of P) (m_of P) blank.vals blank.slacks blank.norms
    scratch = record { vals_long = fits.plan.columns_most; slacks_long = omega (arith, fits.few, fits.plan.rows_most); norms_long = fits.plan.columns_most }

    pub begins_asks : Passed p.columns p.costs p.lowers p.uppers p.starts p.cols p.coeffs p.ops p.rhs (take k ks)
        × Scratch (n_of P) (m_of P) blank.vals blank.slacks blank.norms
    begins_asks = (record { rows = p.rows; entries = p.entries; budget = p.budget; tolerance = p.tolerance; fits = fits }, scratch)

    -- as `begin` is lent it
    abbrev pub lent_start : Problem
    lent_start = problem (plan_of p.columns 0 0 0 f0 p.costs p.lowers p.uppers p.starts p.cols p.coeffs p.ops p.rhs) (take k ks)

    begun_whole : begun lent_start blank ≡ begun (problem_of p) blank
    begun_whole = sym (begun_part P blank) ∙ ap (λ (Q : Problem). begun Q blank) same

    -- 6 and 7
    pub start_refuses : (a : Answer) → refused a ≡ begun lent_start blank
        → answered a v N D F G ≡ handed (solve_plan p m) (past_of N D)
    start_refuses a e =
        ap (λ (r : Solved). handed r (past_of N D)) (sym (start_refused p m blank a (e ∙ begun_whole)) ∙ from_six_holds)

    module _ (u : Numbers) (e : filled u ≡ begun lent_start blank) where
      reckons : u ≡ reckoned P blank
      reckons = (start_filled p m blank u (e ∙ begun_whole)).0 ∙ ap (λ (Q : Problem). reckoned Q blank) (sym same)

      pub launch_asks : Launches (launched_by P) p.budget u (take kept_at N) (take objective_at D) F G
      launch_asks =
          fits_launch P blank u reckons fits scratch (take kept_at N) (take objective_at D) F G
          (front_sized N D long.numbers long.doubles)
          (subst (Lengths P) (sym (front_same N D long.numbers long.doubles)) lengths)
          long.factor_numbers long.factor_coeffs

      -- the launch left M and E of the fronts, and H and J of the factor's arrays
      module _ (r : Ran) (M : List ℕ) (E : List Float) (H : List ℕ) (J : List Float)
          (q : length M ≡ length (take kept_at N)) (x : length E ≡ length (take objective_at D))
          (w : ran_by r M E H J ≡ launched (launched_by P) p.budget
          (first_state (launched_by P) u (packed (take kept_at N) (take objective_at D)) F G)) where
        abbrev M+ : List ℕ
        M+ = M ++ drop kept_at N

        abbrev E+ : List Float
        E+ = E ++ drop objective_at D

        ends : ran_by r M E H J ≡ end_of P m
        ends =
            launched_end P blank u reckons m (ran_by r M E H J)
            (w
            ∙ ap (λ (W : Workspace). launched (launched_by P) p.budget (first_state (launched_by P) u W F G))
            (front_same N D long.numbers long.doubles))

        -- where it ends, in the arrays
        abbrev end : Ended
        end = ended r.why (state_in M+ E+ H J r.at)

        whole : end ≡ ran_by r M E H J
        whole =
            let t = r.at in
            ap (λ (W : Workspace). ended r.why (state_with W t.eta_count t.objective t.steps
            (factored_of t.factored t.factorings H J)))
            (front_packed M (drop kept_at N) E (drop objective_at D) (after_sized N D long.numbers long.doubles M E q x))

        ends_fit : Fits P (state_in M+ E+ H J r.at)
        ends_fit =
            subst (λ (e : Ended). Fits P e.state) (sym (whole ∙ ends))
            (steps_fit P (start_state P m) fits (start_fits P m lengths long.factor_numbers long.factor_coeffs)
            (end_reached P m).by_steps)

        pub close_asks : Closes (checked_by P) v M+ E+ r.at
        close_asks =
            let l = after_long N D long.numbers long.doubles M E q x in
            fits_close P fits v M+ E+ H J r.at ends_fit (omega (arith, lent_all.values_long, fits.few))
            (omega (arith, long.numbers, l.0)) (omega (arith, long.doubles, l.1))

        -- the end reads the values, the kept rows, the counts and the objective of the memory
        closed : (z : Ended) → close P (memory_in v M+ E+ H J) z ≡ close P m z
        unfolding close memory_after
        closed z =
            ap (λ (k : Memory). close P k z) (after_memory N D long.numbers long.doubles M E q x v H J)

        pub solves : {h : Handed} → h ≡ handed (close (checked_by P) (memory_in v M+ E+ H J) end) (past_of M+ E+)
            → h ≡ handed (solve_plan p m) (past_of N D)
        solves c =
            c
            ∙ ap (λ (t : Past). handed (close (checked_by P) (memory_in v M+ E+ H J) end) t)
            (after_past N D long.numbers long.doubles M E q x)
            ∙ ap (λ (t : Solved). handed t (past_of N D))
            (close_whole P (memory_in v M+ E+ H J) end
            ∙ closed end
            ∙ ap (close P m) (whole ∙ ends)
            ∙ ap (λ (Q : Problem). close Q m (end_of Q m)) same
            ∙ sym (start_filled p m blank u (e ∙ begun_whole)).1
            ∙ from_six_holds)
