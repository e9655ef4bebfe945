-- The state that is taken up, and the memory after the factorings are added. No contract cites this file. Assumes nothing.
use Rattle.std.proofs.Common.{◌≡◌, ℕ, ◌+◌, ◌<◌, true, not, ◌||◌, eqb, List, set, sym, ap, ◌∙◌, subst, arith}
use lib.Ieee.{Float, nan}
use Rattle.doubles.specs.Limits.{max_rows, max_columns, vars, eta_columns, eta_entries, count_cells}
use Rattle.doubles.specs.Lists.{◌!◌, ◌#◌}
use Rattle.rules.specs.Plan.{Problem, Memory, Factored, m_of}
use Rattle.rules.specs.Parts.{factored_of, state_with}
use Rattle.rules.specs.Step.{Ended}
use Rattle.rules.specs.Solve.{close}
use Rattle.rules.specs.declared.Answer.{Answer}
use Rattle.state.specs.Packed.{section, packed, state_in, basic_vars_at, nb_vars_at, var_states_at, flag_cells_at, eta_leaving_at, eta_starts_at, eta_rows_at, kept_at, counts_at, objective_at}
use Rattle.state.specs.Memory.{numbers_end, memory_in, Past, past_of, Handed, handed, answered}
use Rattle.state.proofs.Sections.{Changed, written, section_at}
use Rattle.state.proofs.Memory.{rest}
use Rattle.fix_rules.specs.Kept.{factor_fine, kept_by, kept_factor, kept_state}
use Rattle.fix_rules.specs.Calls.{factorings_after, with_factorings, close_call, called}
use Rattle.fix_rules.specs.declared.FixAnswer.TheVariants.{Told}
use Rattle.fix_ends.specs.Ends.{TakesUp, handed_call, told_by}

-- ---- `take_up`
module _ (N : List ℕ) (D : List Float) where
  count_at : (i : ℕ) → i < count_cells → N # (counts_at + i) ≡ section counts_at count_cells N # i
  count_at i h = sym (section_at counts_at count_cells N i 0 h)

  module _ (m : ℕ) (F : List ℕ) (G : List Float) where
    pub factor_asks : TakesUp m N D F G → not (eqb (N # (counts_at + 5)) 1) || factor_fine m F G ≡ true
    factor_asks t = subst (λ (x : ℕ). not (eqb x 1) || factor_fine m F G ≡ true) (sym (count_at 5 (omega arith))) t.factor_pass

    pub taken_up : (P : Problem) (v : List Float) → m_of P ≡ m → (H : List ℕ) (J : List Float)
        → factored_of (eqb (N # (counts_at + 5)) 1) 0 H J ≡ kept_by (eqb (N # (counts_at + 5)) 1) m F G
        → state_in N D H J (record { eta_count = N # (counts_at + 1); objective = D ! objective_at; steps = 0; factored = eqb (N # (counts_at + 5)) 1; factorings = 0 })
        ≡ kept_state P (memory_in v N D F G)
    unfolding kept_state kept_factor
    taken_up P v e H J k =
        let o : D ! objective_at ≡ section objective_at 1 D ! 0 = sym (section_at objective_at 1 D 0 nan (omega arith)) in
        ap (λ (X : Factored). state_with (packed N D) (N # (counts_at + 1)) (D ! objective_at) 0 X) k
        ∙ rw (count_at 1 (omega arith), count_at 5 (omega arith), o, e)

-- ---- `close`
module _ (v : List Float) (M : List ℕ) (E : List Float) (F : List ℕ) (G : List Float) (x : ℕ) where
  abbrev L : List ℕ
  L = set M (counts_at + 6) x

  z : Changed counts_at count_cells (λ (l : List ℕ). set l 6 x) M L
  z = written counts_at count_cells M 6 x (omega arith)

  added : memory_in v L E F G ≡ with_factorings x (memory_in v M E F G)
  added =
      rw (
        z.before basic_vars_at max_rows (omega arith),
        z.before nb_vars_at max_columns (omega arith),
        z.before var_states_at vars (omega arith),
        z.before flag_cells_at max_columns (omega arith),
        z.before eta_leaving_at eta_columns (omega arith),
        z.before eta_starts_at (eta_columns + 1) (omega arith),
        z.before eta_rows_at eta_entries (omega arith),
        z.before kept_at max_rows (omega arith),
        z.here,
      )

  past_same : past_of L E ≡ past_of M E
  past_same = rw (rest z numbers_end (omega arith))

module _ (P : Problem) (e : Ended) (v : List Float) (N : List ℕ) (D : List Float) (F : List ℕ) (G : List Float) where
  abbrev m : Memory
  m = memory_in v N D F G

  pub call_closes : (a : Answer) (w : List Float) (M : List ℕ) (E : List Float) (x : ℕ)
      → answered a w M E F G ≡ handed (close P m e) (past_of N D)
      → x ≡ factorings_after (N # (counts_at + 6)) e.state.factor.times
      → told_by a w (set M (counts_at + 6) x) E F G ≡ handed_call (close_call P m e) (past_of N D)
  unfolding close_call
  call_closes a w M E x q ex =
      let six = ex ∙ ap (λ (k : ℕ). factorings_after k e.state.factor.times) (count_at N D 6 (omega arith)) in
      ap (λ (k : Memory). handed_call (called (Told a) k) (past_of (set M (counts_at + 6) x) E)) (added w M E F G x)
      ∙ ap (λ (k : Past). handed_call (called (Told a) (with_factorings x (memory_in w M E F G))) k) (past_same w M E F G x)
      ∙ ap (λ (h : Handed). handed_call (called (Told h.solved.answer) (with_factorings x h.solved.memory)) h.past) q
      ∙ ap (λ (k : ℕ). handed_call (called (Told (close P m e).answer) (with_factorings k (close P m e).memory)) (past_of N D)) six
