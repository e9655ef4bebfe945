-- What the call is to its gate, what its run asks, and how it ends. No contract cites this file. Assumes nothing.
use mathlib.Core.Path.{◌≡◌, refl, sym, ap, ◌∙◌, subst}
use mathlib.Core.List.{List, []}
use mathlib.Core.Logic.{◌⊎◌}
use Prim.Native.Nat.{ℕ, ◌+◌, ◌≤◌}
use native.Mathlib.Omega.{arith}
use lib.ListN.{length, take}
use lib.Ieee.{Float}
use Rattle.doubles.specs.Limits.{max_rows}
use Rattle.doubles.specs.Lists.{◌#◌}
use Rattle.rules.specs.Plan.{Plan, Problem, Memory, problem_of, kept_rows, m_of}
use Rattle.rules.specs.Step.{Ended}
use Rattle.rules.specs.Solve.{answer_of, values_after, memory_after, close}
use Rattle.rules.specs.Invariant.{Fits}
use Rattle.rules.specs.declared.Answer.{Answer}
use Rattle.state.specs.Packed.{state_in, kept_at, objective_at}
use Rattle.state.specs.Memory.{memory_in, past_of}
use Rattle.state.specs.declared.Tally.{Tally}
use Rattle.plan.specs.Lent.{rows_of, Front}
use Rattle.check_close.proofs.Laws.{answer_part}
use Rattle.fix_rules.specs.Kept.{kept_state}
use Rattle.fix_rules.specs.Calls.{Called, called, factorings_after, with_factorings, close_call}
use Rattle.fix_rules.specs.Meaning.{call_number}
use Rattle.fix_rules.specs.declared.FixAnswer.{FixAnswer}
use Rattle.fix_rules.specs.declared.FixAnswer.TheVariants.{Told}
use Rattle.fix_gate.specs.Gate.{kept_refusal}
use Rattle.std.specs.Prelude.{Some, None}
use Rattle.fix_gate.proofs.Laws.{Kept, goes_by, kept_by}
use Rattle.fix_ends.specs.Ends.{handed_call, called_by}
use Rattle.fix_parts.proofs.Laws.{uncounted, uncounted_fits, fits, no_steps, lent_sized, lent_sound}
use Rattle.reprice_rules.specs.Reprice.{repriced, reprice_end, own_factorings}
use Rattle.reprice_rules.specs.Calls.{close_repriced, reprice_plan}
use Rattle.reprice_rules.proofs.Refusals.{closed_number, ran_accepted}
use Rattle.reprice_rules.proofs.Ran.{reprice_ran}
use Rattle.reprice_run.specs.Lent.{counting, counted_end, Repricing}

-- ---- the end of the call is that of any other, its own factorings counted: the answer doesn't read them, and their cell
-- is written last
module _ (P : Problem) (m : Memory) (k : ℕ) (e : Ended) where
  same_answer : answer_of P (counting k e) ≡ answer_of P e
  same_answer = sym (answer_part P e.why (counting k e).state) ∙ answer_part P e.why e.state

  written_last : (a : Answer) (x : ℕ)
      → with_factorings x (memory_after P (counting k e).state a m) ≡ with_factorings x (memory_after P e.state a m)
  unfolding memory_after values_after
  written_last a x = refl

  counted_closes : close_call P m (counting k e) ≡ close_repriced P m k e
  unfolding close_call close_repriced close
  counted_closes =
      let x = factorings_after (m.counts # 6) (k + e.state.factor.times) in
      let c = counting k e in
      let same : e.state.factor.times + k ≡ k + e.state.factor.times = omega arith in
      ap (λ (y : ℕ). called (Told (answer_of P c)) (with_factorings (factorings_after (m.counts # 6) y)
      (memory_after P c.state (answer_of P c) m))) same
      ∙ ap (λ (a : Answer). called (Told a) (with_factorings x (memory_after P c.state a m))) same_answer
      ∙ ap (called (Told (answer_of P e))) (written_last (answer_of P e) x)

-- ---- the call by its gate
module _ (p : Plan) (v : List Float) (N : List ℕ) (D : List Float) (F : List ℕ) (G : List Float) where
  abbrev m : Memory
  m = memory_in v N D F G

  abbrev goes : Called
  goes =
      let P = problem_of p in
      let s = kept_state P m in
      close_repriced P m (own_factorings s (repriced P s)) (reprice_end P s)

  by_gate : reprice_plan p m ≡ goes_by p m goes (kept_refusal p m)
  unfolding reprice_plan
  by_gate = kept_by p m goes

  pub refuses : (a : FixAnswer) → Some a ≡ kept_refusal p m
      → called_by a v N D F G ≡ handed_call (reprice_plan p m) (past_of N D)
  refuses a e = ap (λ (c : Called). handed_call c (past_of N D)) (ap (goes_by p m goes) e ∙ sym by_gate)

  -- once nothing is refused
  module _ (e : None ≡ kept_refusal p m) where
    is_closed : goes ≡ reprice_plan p m
    is_closed = ap (goes_by p m goes) e ∙ sym by_gate

    pub goes_on : close_call (problem_of p) m (counted_end (problem_of p) (kept_state (problem_of p) m)) ≡ reprice_plan p m
    unfolding counted_end
    goes_on =
        let P = problem_of p in
        let s = kept_state P m in
        counted_closes P m (own_factorings s (repriced P s)) (reprice_end P s) ∙ is_closed

    pub end_fits : Fits (problem_of p) (uncounted (counted_end (problem_of p) (kept_state (problem_of p) m)).state)
    unfolding counted_end
    end_fits =
        let P = problem_of p in
        let s = kept_state P m in
        let ran = subst (λ (r : Called). (call_number r ≡ 0) ⊎ ((20 ≤ call_number r) × (call_number r ≤ 26))) is_closed
        (closed_number P m (own_factorings s (repriced P s)) (reprice_end P s)) in
        uncounted_fits P (reprice_end P s).state (reprice_ran p m (ran_accepted p m ran)).sound.fits

  module _ (k : Kept p v N D F G) where
    pub run_asks : (l : List ℕ) (n : ℕ) (ks : List ℕ) (f : Front (kept_rows (rows_of 0 p.rows p.starts [])) l n ks)
        (scratch : length ks ≡ max_rows) (H : List ℕ) (J : List Float) (t : Tally)
        (st : (Q : Problem) (w : List Float) → m_of Q ≡ n → state_in N D H J t ≡ kept_state Q (memory_in w N D F G))
        → Repricing p.columns p.budget p.costs p.lowers p.uppers p.starts p.cols p.coeffs p.ops
        (take n ks) (take kept_at N) (take objective_at D) H J t
    run_asks l n ks f scratch H J t st =
        record {
          rows = p.rows;
          entries = p.entries;
          tolerance = p.tolerance;
          rhs = p.rhs;
          sized = lent_sized p v N D F G k l n ks f scratch H J t st;
          problem_fits = fits p v N D F G k l n ks f scratch;
          state_sound = lent_sound p v N D F G k l n ks f scratch H J t st;
          no_steps = no_steps p v N D F G k l n ks f scratch H J t st;
        }
