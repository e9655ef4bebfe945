-- What `solve` promises: the file to start from. Its contract is one equation: from any plan and any lent memory, the answer
-- and the memory afterwards are those of `solve_plan`, and the cells past the sections stay. Here each theorem of `rules` is
-- said of any answer and memory r that this equation allows. Assumes nothing.
use mathlib.Core.Path.{◌≡◌, refl, sym, ap, ◌∙◌, subst}
use mathlib.Core.Bool.{true}
use mathlib.Core.Logic.{◌↔◌, ◌⊎◌}
use Prim.Native.Nat.{ℕ, ◌+◌, ◌*◌, ◌<◌, ◌≤◌}
use native.Mathlib.Nat.{mul-le-mul_right, le_trans}
use native.Mathlib.Omega.{arith}
use mathlib.Core.List.{List}
use lib.Ieee.{Float, le}
use Rattle.doubles.specs.Num.{eps, size}
use Rattle.rules.specs.Plan.{Plan, Memory, State, problem_of, m_of}
use Rattle.rules.specs.Start.{start_state, dual_feasible, passes7}
use Rattle.rules.specs.Choose.{choose}
use Rattle.rules.specs.Basis.{eta_used}
use Rattle.rules.specs.Step.{Ended, ended}
use Rattle.rules.specs.FinalCheck.{values_of, final_check}
use Rattle.rules.specs.Answers.{Row as Told, as_row, number_of, kept_row_at}
use Rattle.rules.specs.Solve.{Solved, solved, checked_answer, answer_of, close, end_of, solve_plan}
use Rattle.rules.specs.Kinds.{Kind, dual, primal, first_kind}
use Rattle.rules.specs.Conditions.{Gives, NoneBelow, Refusal, reached, Passes, Checks, NoEntering, Ends, Line}
use Rattle.rules.specs.Invariant.{Maps, Numbers}
use Rattle.rules.specs.Steps.{Steps, RunsTo, LentTails, Ran}
use Rattle.rules.specs.declared.Answer.{Answer}
use Rattle.rules.specs.declared.Entering.{Entering}
use Rattle.std.specs.Prelude.{Some, None}
use Rattle.rules.specs.declared.Checked.TheVariants.{Passed}
use Rattle.rules.specs.declared.Stop.{Stop}
use Rattle.state.specs.Memory.{memory_in, past_of, Handed, handed, answered}
use Rattle.state.proofs.Memory.{cells_settle}
use Rattle.rules.proofs.Refusals.{refusal_exact, refusal_says, six_never}
use Rattle.rules.proofs.Answers.{end_exact, answer_exact, unbounded_priced, optimal_writes, values_left}
use Rattle.rules.proofs.InWords.{infeasible_told, optimal_told}
use Rattle.rules.proofs.DualStart.{at_once}
use Rattle.rules.proofs.Steps.{steps_one}
use Rattle.rules.proofs.Ran.{solved_closes, solved_ran}

-- what the contract of `solve` says of an answer and the memory afterwards
abbrev pub Promised : Plan → Memory → Solved → Type 0
Promised p m r = r ≡ solve_plan p m

-- The memory is read out of the values, the two arrays and the factor's two: `solve` says this of the answer a and of what
-- it leaves of them, w, M, E, H and J.
module _ (p : Plan) (v : List Float) (N : List ℕ) (D : List Float) (F : List ℕ) (G : List Float) where
  abbrev pub PromisedIn : Answer → List Float → List ℕ → List Float → List ℕ → List Float → Type 0
  PromisedIn a w M E H J = answered a w M E H J ≡ handed (solve_plan p (memory_in v N D F G)) (past_of N D)

  pub in_memory : (a : Answer) (w : List Float) (M : List ℕ) (E : List Float) (H : List ℕ) (J : List Float)
      → PromisedIn a w M E H J → Promised p (memory_in v N D F G) (solved a (memory_in w M E H J))
  in_memory a w M E H J e = ap (λ (h : Handed). h.solved) e

  -- 01: "cells past what is written never change": those past the sections
  pub past_stays : (a : Answer) (w : List Float) (M : List ℕ) (E : List Float) (H : List ℕ) (J : List Float)
      → PromisedIn a w M E H J → past_of M E ≡ past_of N D
  past_stays a w M E H J e = ap (λ (h : Handed). h.past) e

  -- 01: "Any two results allowed by a promise are shown equal": the answer and every cell, of arrays of any length
  pub cells_settled : (a b : Answer) (w x : List Float) (M L : List ℕ) (E K : List Float) (H S : List ℕ) (J T : List Float)
      → PromisedIn a w M E H J → PromisedIn b x L K S T
      → (a ≡ b) × (w ≡ x) × (M ≡ L) × (E ≡ K) × (H ≡ S) × (J ≡ T)
  cells_settled a b w x M L E K H S J T e f =
      let q : answered a w M E H J ≡ answered b x L K S T = e ∙ sym f in
      let z = cells_settle {v = w} {w = x} {N = M} {M = L} {D = E} {E = K} {F = H} {H = S} {G = J} {J = T}
      (ap (λ (h : Handed). h.solved.memory) q) (ap (λ (h : Handed). h.past) q) in
      (ap (λ (h : Handed). h.solved.answer) q, z.0, z.1, z.2, z.3, z.4)

-- no refusal
abbrev pub NotRefused : Solved → Type 0
NotRefused r = (number_of r.answer ≡ 0) ⊎ (20 ≤ number_of r.answer)

-- The state where a run ends, `reached p m`: exactly the one that the rules' own steps, dual and then primal ones, lead to
-- from the start within the budget and where the words of an end hold.
pub last_exactly : (p : Plan) (m : Memory) (t : State)
    → (t ≡ reached p m) ↔ ((c : Kind) × RunsTo p m c t × ((w : Stop) × Ends (problem_of p) c t w))
last_exactly p m t =
    let P = problem_of p in
    let f = end_of P m in (
      λ q.
          let h = (end_exact P m f.why f.state).0 refl in
          subst (λ (s : State). (c : Kind) × RunsTo p m c s × ((w : Stop) × Ends P c s w)) (sym q) (h.0, h.1, (f.why, h.2)),
      λ h. ap (λ (x : Ended). x.state) (sym ((end_exact P m h.2.0 t).1 (h.0, h.1, h.2.1))),
    )

module _ (p : Plan) (m : Memory) (r : Solved) (e : Promised p m r) where
  -- 01: "Any two results allowed by a promise are shown equal": the answer and every lent cell
  pub settled : (s : Solved) → Promised p m s → r ≡ s
  settled s f = e ∙ sym f

  -- ---- refusals

  -- 01: "The lowest number that applies is given": 1 to 7, each exactly when the table says so
  pub refuses_exactly : (k : ℕ) → 1 ≤ k → k < 8 → (number_of r.answer ≡ k) ↔ (Gives k p m × NoneBelow k p m)
  refuses_exactly k l h = subst (λ (x : Solved). (number_of x.answer ≡ k) ↔ (Gives k p m × NoneBelow k p m)) (sym e) (refusal_exact p m k l h)

  -- 01: "1 to 7 are refusals: all lent memory stays, objective 0.0, 0 steps"; 3, 4 and 5 name the first place
  pub refusal_keeps : (k : ℕ) → 1 ≤ k → k < 8 → number_of r.answer ≡ k → Refusal k p m r
  refusal_keeps k l h = subst (λ (x : Solved). number_of x.answer ≡ k → Refusal k p m x) (sym e) (refusal_says p m k l h)

  -- 02: "show that 6 is no longer given"
  pub six_not_given : ¬ (number_of r.answer ≡ 6)
  six_not_given = subst (λ (x : Solved). ¬ (number_of x.answer ≡ 6)) (sym e) (six_never p m)

  -- ---- the other answers

  -- 0 and 20 to 26, each with its objective, steps, excess and place, exactly when no refusal is called for and the rules' own
  -- steps lead from the start, within the budget, to a state that its line of the table holds of. By `last_exactly` that
  -- is the state `reached p m`, and no other.
  pub answers_exactly : (t : Told) → (t.number ≡ 0) ⊎ (20 ≤ t.number)
      → (as_row r.answer ≡ t) ↔ (NoneBelow 8 p m × ((c : Kind) × ((s : State) × RunsTo p m c s × Line (problem_of p) c s t)))
  answers_exactly t h = rw e (answer_exact p m t h)

  -- 01: "Status 0 is Optimal and writes values, slacks last": the values of the state that was reached. They have passed
  -- the final check, with the answer's excess: each is finite and, by its own excess, within the tolerance of its finite
  -- bounds, and each kept row's residual is within it
  pub optimal_passes : number_of r.answer ≡ 0 → Passes p m r
  optimal_passes = subst (λ (x : Solved). number_of x.answer ≡ 0 → Passes p m x) (sym e) (optimal_writes p m)

  -- 0 exactly when the steps lead within the budget to a state among the primal ones, where no column enters and which the
  -- final check accepts: of a dual feasible start the dual steps have ended before, with no row that leaves
  pub optimal_exactly : (number_of r.answer ≡ 0)
      ↔ (NoneBelow 8 p m
      × ((s : State) × RunsTo p m primal s × (choose (problem_of p) s.ws ≡ None)
      × ((x : Float) × Checks (problem_of p) (values_of (problem_of p) s.ws) (Passed x))))
  optimal_exactly = rw e (optimal_told p m)

  -- 02: "A new status 26 says no entering column exists for the leaving row", which is its place: exactly when the dual steps
  -- lead within the budget to a state where that row leaves and no column can enter for it
  pub infeasible_exactly : (k : ℕ) → (number_of r.answer ≡ 26) × ((as_row r.answer).place ≡ kept_row_at k)
      ↔ (NoneBelow 8 p m × ((s : State) × RunsTo p m dual s × NoEntering (problem_of p) s k))
  infeasible_exactly k = rw e (infeasible_told p m k)

  -- 01: "20 to 24 leave the values array alone", and so do 25, 26 and refusals
  pub values_stay : ¬ (number_of r.answer ≡ 0) → r.memory.values ≡ m.values
  values_stay = subst (λ (x : Solved). ¬ (number_of x.answer ≡ 0) → x.memory.values ≡ m.values) (sym e) (values_left p m)

  -- 02: "a column at neither bound enters only if its price's size is at least EPS. This amends the step rule and 20":
  -- wherever it stands, the column by which 20 comes has such a price
  pub unbounded_by_price : number_of r.answer ≡ 20
      → (f : Entering) × (choose (problem_of p) (reached p m).ws ≡ Some f) × (le eps (size f.price) ≡ true)
  unbounded_by_price =
      subst (λ (x : Solved). number_of x.answer ≡ 20
      → (f : Entering) × (choose (problem_of p) (reached p m).ws ≡ Some f) × (le eps (size f.price) ≡ true))
      (sym e) (unbounded_priced p m)

  -- 01: "Answers 0 and 20 to 24 carry the objective and step count of that state"; "the workspace then holds the state
  -- after the last whole step"
  pub ran : NotRefused r → Ran p m r (reached p m)
  ran = subst (λ (x : Solved). NotRefused x → Ran p m x (reached p m)) (sym e) (solved_ran p m)

  module _ (h : NotRefused r) where
    abbrev pub steps : ℕ
    steps = (as_row r.answer).steps

    -- no other state is behind the answer
    pub last_only : (t : State) → Ran p m r t → t ≡ reached p m
    last_only t x =
        let s = start_state (problem_of p) m in
        let count : (reached p m).steps ≡ t.steps = sym (ran h).steps_told ∙ x.steps_told in
        steps_one (problem_of p) s x.reached.by_steps
        (subst (λ (k : ℕ). Steps (problem_of p) s (first_kind p) (ran h).kind k (reached p m)) count (ran h).reached.by_steps)

    -- the state and why the run ends there settle the answer and every lent cell
    pub end_settles : (c : Kind) (w : Stop) (t : State) → RunsTo p m c t → Ends (problem_of p) c t w
        → r ≡ close (problem_of p) m (ended w t)
    end_settles c w t a b =
        let none = ((answers_exactly (as_row r.answer) h).0 refl).0 in
        e ∙ solved_closes p m none ∙ ap (close (problem_of p) m) ((end_exact (problem_of p) m w t).1 (c, a, b))

    -- 01: "If dual feasible, Optimal is reached at once with 0 steps (ours), after the final check": so it still is where every
    -- slack starts within its bounds
    pub dual_at_once : dual_feasible p ≡ true → passes7 (problem_of p) ≡ true
        → let P = problem_of p in
        let s = start_state P m in
        (reached p m ≡ s) × (steps ≡ 0) × (r.answer ≡ checked_answer s (final_check P (values_of P s.ws)))
    unfolding start_state close answer_of
    dual_at_once d inside =
        let P = problem_of p in
        let q = at_once P m d inside in
        let start : reached p m ≡ start_state P m = ap (λ (x : Ended). x.state) q in
        let ends = (end_exact P m _ _).0 q in (
          start,
          (ran h).steps_told ∙ ap (λ (s : State). s.steps) start,
          ap (λ (x : Solved). x.answer) (end_settles ends.0 _ _ ends.1 ends.2),
        )

    -- 01: "The step count in the answer is the number of steps the rules took", each step the rules' own, and at most the budget
    pub steps_taken : (c : Kind) × Steps (problem_of p) (start_state (problem_of p) m) (first_kind p) c steps (reached p m) × (steps ≤ p.budget)
    steps_taken =
        let c = (ran h).kind in
        let x = subst (λ (k : ℕ). Steps (problem_of p) (start_state (problem_of p) m) (first_kind p) c k (reached p m) × (k ≤ p.budget))
        (sym (ran h).steps_told) ((ran h).reached.by_steps, (ran h).reached.within) in
        (c, x.0, x.1)

    -- demand 2: the two maps are each other's inverse, in the workspace that is handed back
    pub maps_inverse : Maps (problem_of p) r.memory.ws
    maps_inverse = subst (Maps (problem_of p)) (sym (ran h).lent) (ran h).sound.fits.maps

    -- every number that the state stores is finite
    pub all_finite_holds : Numbers (problem_of p) (reached p m)
    all_finite_holds = (ran h).sound.numbers

    -- 01: "After k steps the store has at most k columns and k times the row count of entries". A step that factored left
    -- no column, so steps, columns and factorings are counted against each other
    pub store_bounded :
        ((reached p m).eta_count + (reached p m).factor.times ≤ steps)
        × (eta_used (reached p m) ≤ steps * m_of (problem_of p))
    store_bounded =
        let b = (ran h).bounded in
        let few : (reached p m).eta_count ≤ (reached p m).steps = omega (arith, b.columns) in
        subst (λ (k : ℕ). ((reached p m).eta_count + (reached p m).factor.times ≤ k)
        × (eta_used (reached p m) ≤ k * m_of (problem_of p)))
        (sym (ran h).steps_told) (b.columns, le_trans b.entries (mul-le-mul_right (m_of (problem_of p)) few))

    -- 02, Ask 5: the factor that is handed back is the state's
    pub factor_left : (r.memory.all_factor_numbers ≡ (reached p m).factor.numbers)
        × (r.memory.all_factor_coeffs ≡ (reached p m).factor.coeffs)
    factor_left = ((ran h).lent_numbers, (ran h).lent_coeffs)

    -- 01: "cells past what is written never change"
    pub tails_stay : LentTails (problem_of p) m r.memory (reached p m)
    tails_stay = (ran h).tails
