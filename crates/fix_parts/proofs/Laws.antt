-- What the parts of a call ask once its gate refuses nothing, and how it ends. No contract cites this file. Assumes nothing.
use mathlib.Core.Path.{◌≡◌, sym, ap, ◌∙◌, subst}
use mathlib.Core.Bool.{true, not, ◌||◌}
use mathlib.Core.List.{List, [], ◌++◌}
use Prim.Native.Nat.{ℕ, ◌<◌, ◌≤◌}
use native.Mathlib.Omega.{arith}
use lib.ListN.{length, take, drop}
use lib.Seq.{length-take-le}
use lib.Ieee.{Float}
use Rattle.doubles.specs.Limits.{max_rows, max_budget}
use Rattle.doubles.specs.Lists.{◌#◌}
use Rattle.rules.specs.Plan.{Plan, Problem, Memory, Workspace, State, problem_of, kept_rows, m_of}
use Rattle.rules.specs.Parts.{problem, factored_of, state_with}
use Rattle.rules.specs.Step.{Ended, ended}
use Rattle.rules.specs.Solve.{Solved, memory_after, close}
use Rattle.rules.specs.Invariant.{ProblemFits, MemoryFits, Fits, Sound}
use Rattle.rules.proofs.Lengths.{memory_fits}
use Rattle.state.specs.Packed.{Sized, state_in, kept_at, objective_at}
use Rattle.state.specs.Memory.{memory_in, Past, past_of, numbers_end, doubles_end}
use Rattle.state.specs.declared.Tally.{Tally}
use Rattle.state.proofs.Memory.{front_packed, front_sized, front_same, after_sized, after_long, after_memory, after_past}
use Rattle.plan.specs.Lent.{rows_of, Front}
use Rattle.plan.proofs.Parts.{kept_part}
use Rattle.plan.proofs.Fits.{front_taken}
use Rattle.check_final.proofs.Parts.{checked_by}
use Rattle.check_close.specs.Lent.{Closes}
use Rattle.check_close.proofs.Laws.{close_whole, fits_close}
use Rattle.start_gate.proofs.Gate.{Accepted, accepted}
use Rattle.run.specs.Ran.{ran_by}
use Rattle.run.specs.declared.Ran.{Ran}
use Rattle.fix_rules.specs.Kept.{kept_state, has_factor, factor_fine}
use Rattle.fix_rules.specs.Calls.{Called, called, factorings_after, with_factorings, close_call}
use Rattle.fix_rules.specs.declared.FixAnswer.TheVariants.{Told}
use Rattle.fix_rules.proofs.Kept.{parts}
use Rattle.fix_rules.proofs.Honest.{Honest, kept_honest}
use Rattle.fix_gate.proofs.Laws.{Kept, plan_fits, kept_asks}
use Rattle.fix_ends.specs.Ends.{TakesUp, HandedCall, handed_call}

-- a call's end from a solve's
abbrev call_of : Solved → Memory → Ended → Called
call_of s m e = called (Told s.answer) (with_factorings (factorings_after (m.counts # 6) e.state.factor.times) s.memory)

-- a state with no factoring counted: what the end asks is asked of this, since a call may count some of its own
abbrev pub uncounted : State → State
uncounted s =
    let F = s.factor in
    state_with s.ws s.eta_count s.objective s.steps (factored_of F.there 0 F.numbers F.coeffs)

pub uncounted_fits : (P : Problem) (s : State) → Fits P s → Fits P (uncounted s)
uncounted_fits P s f =
    let F = f.factor in
    record {
      lengths = f.lengths;
      maps = f.maps;
      store = f.store;
      factor = record {
        numbers_long = F.numbers_long;
        coeffs_long = F.coeffs_long;
        solid = F.solid;
        solid_transposed = F.solid_transposed;
      };
      factorings = omega arith;
    }

-- ---- what holds once nothing is refused
module _ (p : Plan) (v : List Float) (N : List ℕ) (D : List Float) (F : List ℕ) (G : List Float) (k : Kept p v N D F G) where
  abbrev m : Memory
  m = memory_in v N D F G

  passed : Accepted p m
  passed = accepted p m k.refused_none

  pub fits_all : ProblemFits (problem_of p)
  fits_all = plan_fits p v N D F G k.refused_none

  lent_all : MemoryFits p m
  lent_all = memory_fits p m passed.passes_1

  pub numbers_long : numbers_end ≤ length N
  numbers_long = (kept_asks p v N D F G k.refused_none).3

  pub doubles_long : doubles_end ≤ length D
  doubles_long = (kept_asks p v N D F G k.refused_none).4

  pub keeps_asks : (p.rows < length p.starts) × (p.rows ≤ max_rows)
  keeps_asks = (omega (arith, fits_all.plan.starts_long), fits_all.plan.rows_most)

  pub fronts_inside : (kept_at ≤ length N) × (objective_at ≤ length D)
  fronts_inside = (omega (arith, numbers_long), omega (arith, doubles_long))

  pub honest : Honest (problem_of p) (kept_state (problem_of p) m)
  honest = kept_honest p m passed.passes_1 passed.passes_2 passed.passes_3 k.kept

  -- the kept rows' numbers stand at the front of the scratch ks
  module _ (l : List ℕ) (n : ℕ) (ks : List ℕ) (f : Front (kept_rows (rows_of 0 p.rows p.starts [])) l n ks)
      (scratch : length ks ≡ max_rows) where
    -- the problem with the front that is lent
    abbrev pub P : Problem
    P = problem p (take n ks)

    same : P ≡ problem_of p
    same = ap (problem p) (front_taken f ∙ sym (kept_part p))

    pub fits : ProblemFits P
    fits = subst ProblemFits (sym same) fits_all

    counted : n ≡ m_of (problem_of p)
    counted = omega (arith, f.counted, ap length (kept_part p))

    pub front_inside : n ≤ length ks
    front_inside = omega (arith, counted, scratch, fits_all.few, fits_all.plan.rows_most)

    pub front_long : n ≡ length (take n ks)
    front_long = sym (length-take-le n ks front_inside)

    pub takes_asks : TakesUp n N D F G
    takes_asks =
        let a = kept_asks p v N D F G k.refused_none in
        let o = (parts p m passed.passes_1 passed.passes_2 passed.passes_3 k.kept).factor_pass in
        record {
          rows_most = omega (arith, front_inside, scratch);
          numbers_long = a.3;
          doubles_long = a.4;
          factor_numbers_long = a.5;
          factor_coeffs_long = a.6;
          factor_pass = subst (λ (r : ℕ). not (has_factor m) || factor_fine r F G ≡ true) (sym counted) o;
        }

    -- the state was taken up, with H and J for the factor's arrays
    module _ (H : List ℕ) (J : List Float) (t : Tally)
        (st : (Q : Problem) (w : List Float) → m_of Q ≡ n → state_in N D H J t ≡ kept_state Q (memory_in w N D F G)) where
      abbrev N₀ : List ℕ
      N₀ = take kept_at N

      abbrev D₀ : List Float
      D₀ = take objective_at D

      begins : state_in N₀ D₀ H J t ≡ kept_state P m
      begins =
          ap (λ (w : Workspace). state_with w t.eta_count t.objective t.steps (factored_of t.factored t.factorings H J))
          (front_same N D numbers_long doubles_long)
          ∙ st P v (sym front_long)

      pub no_steps : t.steps ≡ 0
      unfolding kept_state
      no_steps = ap (λ (s : State). s.steps) begins

      pub lent_sized : Sized N₀ D₀
      lent_sized = front_sized N D numbers_long doubles_long

      pub lent_sound : Sound P (state_in N₀ D₀ H J t)
      lent_sound =
          subst (Sound P) (sym begins) (subst (λ (Q : Problem). Sound Q (kept_state Q m)) (sym same) honest.sound)

      pub budget_most : p.budget ≤ max_budget
      budget_most = fits_all.plan.budget_most

      -- the run: what it is of any problem and of the part Q that is lent, that its end fits, and what the call is to it
      module _ (run : Problem → State → Ended)
          (fits-end : Fits (problem_of p) (uncounted (run (problem_of p) (kept_state (problem_of p) m)).state))
          (Q : Problem) (part : (s : State) → run Q s ≡ run P s) (c : Called)
          (by : close_call (problem_of p) m (run (problem_of p) (kept_state (problem_of p) m)) ≡ c)
          (r : Ran) (M : List ℕ) (E : List Float) (K : List ℕ) (X : List Float) (q : length M ≡ length N₀) (x : length E ≡ length D₀)
          (w : ran_by r M E K X ≡ run Q (state_in N₀ D₀ H J t)) where
        abbrev M+ : List ℕ
        M+ = M ++ drop kept_at N

        abbrev E+ : List Float
        E+ = E ++ drop objective_at D

        ends : ran_by r M E K X ≡ run P (kept_state P m)
        ends = w ∙ part (state_in N₀ D₀ H J t) ∙ ap (run P) begins

        -- where it ends, in the arrays
        abbrev end : Ended
        end = ended r.why (state_in M+ E+ K X r.at)

        whole : end ≡ ran_by r M E K X
        whole =
            let u = r.at in
            ap (λ (W : Workspace). ended r.why (state_with W u.eta_count u.objective u.steps
            (factored_of u.factored u.factorings K X)))
            (front_packed M (drop kept_at N) E (drop objective_at D) (after_sized N D numbers_long doubles_long M E q x))

        ends_fit : Fits P (uncounted (state_in M+ E+ K X r.at))
        ends_fit =
            subst (λ (e : Ended). Fits P (uncounted e.state)) (sym (whole ∙ ends))
            (subst (λ (R : Problem). Fits R (uncounted (run R (kept_state R m)).state)) (sym same) fits-end)

        pub close_asks : Closes (checked_by P) v M+ E+ r.at
        close_asks =
            let u = r.at in
            let none : Tally = record { eta_count = u.eta_count; objective = u.objective; steps = u.steps; factored = u.factored; factorings = 0 } in
            let a = after_long N D numbers_long doubles_long M E q x in
            let o = fits_close P fits v M+ E+ K X none ends_fit (omega (arith, lent_all.values_long, fits.few))
            (omega (arith, numbers_long, a.0)) (omega (arith, doubles_long, a.1)) in
            record {
              answers = o.answers;
              used = o.used;
              values_long = o.values_long;
              rows_most = o.rows_most;
              numbers_long = o.numbers_long;
              doubles_long = o.doubles_long;
            }

        -- the end reads the values, the kept rows, the counts and the objective of the memory
        closed : (z : Ended) → close_call (checked_by P) (memory_in v M+ E+ K X) z ≡ close_call P m z
        unfolding close_call close memory_after
        closed z =
            ap (λ (s : Solved). call_of s (memory_in v M+ E+ K X) z) (close_whole P (memory_in v M+ E+ K X) z)
            ∙ ap (λ (y : Memory). close_call P y z) (after_memory N D numbers_long doubles_long M E q x v K X)

        pub calls : {h : HandedCall} → h ≡ handed_call (close_call (checked_by P) (memory_in v M+ E+ K X) end) (past_of M+ E+)
            → h ≡ handed_call c (past_of N D)
        calls e =
            e
            ∙ ap (λ (y : Past). handed_call (close_call (checked_by P) (memory_in v M+ E+ K X) end) y)
            (after_past N D numbers_long doubles_long M E q x)
            ∙ ap (λ (y : Called). handed_call y (past_of N D))
            (closed end
            ∙ ap (close_call P m) (whole ∙ ends)
            ∙ ap (λ (R : Problem). close_call R m (run R (kept_state R m))) same
            ∙ by)
