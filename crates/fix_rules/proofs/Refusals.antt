-- 02, Ask 9: "Refuse, lowest first and changing nothing": each number is given exactly when its words hold and those of
-- no lower one do. Assumes nothing.
use mathlib.Core.Path.{◌≡◌, refl, sym, ap, ◌∙◌, subst}
use mathlib.Core.Bool.{Bool, true, false, ◌||◌}
use mathlib.Core.Logic.{◌↔◌, ◌⊎◌, inl, inr, ⊎_elim}
use Prim.Native.Nat.{ℕ, suc, ◌<◌, ◌≤◌}
use native.Mathlib.Nat.{eq-or-lt_of_le, le_of_suc-le-suc, le_antisymm}
use native.Mathlib.Omega.{arith}
use lib.Dec.{ltb, eqb}
use lib.Ieee.{Float}
use borrow.Author.Tests.{ltb-true, ltb-false}
use Rattle.doubles.proofs.Bools.{by_test, never}
use Rattle.rules.specs.Plan.{Plan, Memory, Problem, State, problem_of}
use Rattle.rules.specs.Refusals.{passes1, passes2, first_bad_row, first_crossed, first_false}
use Rattle.rules.specs.Start.{passes6, passes7, dual_feasible}
use Rattle.rules.specs.FinalCheck.{values_of, final_check}
use Rattle.rules.specs.Step.{Ended, ended}
use Rattle.rules.specs.Answers.{as_row, number_of}
use Rattle.rules.specs.Solve.{Solved, solved, or_else, or_refuse, or_refused, close, end_of, checked_answer, answer_of, solve_plan}
use Rattle.rules.specs.Conditions.{Gives, NoneBelow, Names, Refusal}
use Rattle.rules.specs.declared.Answer.{Answer}
use Rattle.rules.specs.declared.Answer.TheVariants.{BadSize, BadNumber, BadEntry, CrossedBounds, FalseEmptyRow, StartNotFinite, SlackOutside}
use Rattle.rules.specs.declared.Stop.{Stop}
use Rattle.rules.specs.declared.Stop.TheVariants.{Finished, Spent, Unbounded, NotFinite, Singular, Infeasible}
use Rattle.rules.specs.declared.Checked.{Checked}
use Rattle.rules.specs.declared.Checked.TheVariants.{Passed, Value, Row}
use Rattle.rules.proofs.Refusals.{Case, refused as solve-refused, accepted as solve-accepted, cases, refusal_exact, refusal_says}
use Rattle.fix_rules.specs.declared.FixAnswer.{FixAnswer}
use Rattle.fix_rules.specs.declared.FixAnswer.TheVariants.{Told, NotKept, BadColumn, BadValue, NotFixed}
use Rattle.fix_rules.specs.Kept.{kept_state, passes41}
use Rattle.fix_rules.specs.Calls.{Called, called, as_fix_row, close_call, or_refused_call, passes42, passes43, passes44, fix_plan, unfix_plan}
use Rattle.fix_rules.specs.Unkept.{Unkept}
use Rattle.fix_rules.specs.Conditions.{Unknown, Outside, Loose}
use Rattle.fix_rules.proofs.Unkept.{unkept_exactly}
use Rattle.fix_rules.proofs.Calls.{unknown_exactly, outside_exactly, loose_exactly}
use Rattle.fix_rules.specs.Sequence.{Call, fix, unfix, column_of, call_plan, call_end}
use Rattle.fix_rules.specs.Meaning.{CallGives, as_solve, not_kept, unknown, outside, not_fixed, NoneBelowCall, Refuses, call_number, CallRefusal, Accepted}

-- ---- a run's answer has another number
checked_late : (s : State) (c : Checked)
    → (number_of (checked_answer s c) ≡ 0) ⊎ ((20 ≤ number_of (checked_answer s c)) × (number_of (checked_answer s c) ≤ 26))
unfolding checked_answer as_row
checked_late s (Passed x) = inl refl
checked_late s (Value v x) = inr (omega arith, omega arith)
checked_late s (Row r x) = inr (omega arith, omega arith)

pub late : (P : Problem) (w : Stop) (s : State)
    → (number_of (answer_of P (ended w s)) ≡ 0) ⊎
    ((20 ≤ number_of (answer_of P (ended w s))) × (number_of (answer_of P (ended w s)) ≤ 26))
unfolding answer_of as_row
late P Finished s = checked_late s (final_check P (values_of P s.ws))
late P Spent s = inr (omega arith, omega arith)
late P Unbounded s = inr (omega arith, omega arith)
late P Singular s = inr (omega arith, omega arith)
late P NotFinite s = inr (omega arith, omega arith)
late P (Infeasible r) s = inr (omega arith, omega arith)

-- ---- 1 to 5: "as solve gives them". Both ask the same, and go on their own ways
data Judged (m : Memory) (x : Solved) (r : Called) : Solved → Called → Type 0 where
  turned_away : (a : Answer) → 1 ≤ number_of a → number_of a < 6 → Judged m x r (solved a m) (called (Told a) m)
  let_in : Judged m x r x r

module _ (p : Plan) (m : Memory) where
  asked : {x u : Solved} {r v : Called} (b : Bool) (a : Answer) → 1 ≤ number_of a → number_of a < 6 → Judged m x r u v
      → Judged m x r (or_else b (solved a m) u) (or_else b (called (Told a) m) v)
  asked true a l h n = n
  asked false a l h n = turned_away a l h

  judged : (x : Solved) (r : Called)
      → Judged m x r (or_refused p m (λ a. solved a m) x) (or_refused p m (λ a. called (Told a) m) r)
  unfolding as_row
  judged x r =
      asked (passes1 p m) BadSize (omega arith) (omega arith)
      (asked (passes2 p) BadNumber (omega arith) (omega arith)
      (asked (eqb (first_bad_row p) p.rows) (BadEntry _ _) (omega arith) (omega arith)
      (asked (eqb (first_crossed p) p.columns) (CrossedBounds _) (omega arith) (omega arith)
      (asked (eqb (first_false p) p.rows) (FalseEmptyRow _) (omega arith) (omega arith) let_in))))

  -- behind them solve gives 6, 7 or what its run gives
  behind : (a b : Bool) → let x =
      or_refuse a StartNotFinite m (or_refuse b SlackOutside m (close (problem_of p) m (end_of (problem_of p) m))) in
      (number_of x.answer ≡ 0) ⊎ (6 ≤ number_of x.answer)
  unfolding as_row close
  behind false b = inr (omega arith)
  behind true false = inr (omega arith)
  behind true true =
      let e =
      end_of (problem_of p) m in ⊎_elim inl (λ h. inr (omega (arith, h.0))) (late (problem_of p) e.why e.state)

  -- where solve's answer is none of 1 to 5, none of them is called for
  none_of_five : {x : Solved} → Case p m x → (number_of x.answer ≡ 0) ⊎ (6 ≤ number_of x.answer) → NoneBelow 6 p m
  none_of_five (solve-refused k l h g n says) q =
      λ j i. n j (⊎_elim (λ z. absurd (omega (arith, says.number))) (λ z. omega (arith, says.number)) q)
  none_of_five (solve-accepted n) q = λ j i. n j (omega arith)

-- ---- "lowest first"

-- how a call comes to its answer: by the lowest refusal that is called for, or by none
pub data CallCase (p : Plan) (m : Memory) (c : Call) : Called → Type 0 where
  refused : {r : Called} (k : ℕ) → Refuses k → CallGives p m c k → NoneBelowCall k p m c → CallRefusal k p m r
      → CallCase p m c r
  accepted : Accepted p m c
      → CallCase p m c (close_call (problem_of p) m (call_end (problem_of p) (kept_state (problem_of p) m) c))

-- 43 and 44 are of one call each
abbrev Of43 : Plan → Call → Type 0
Of43 p (fix j value) = Outside p j value
Of43 p (unfix j) = ⊥

abbrev Of44 : Plan → Memory → Call → Type 0
Of44 p m (fix j value) = ⊥
Of44 p m (unfix j) = Loose p m j

-- the words of a number that is called for
module _ {p : Plan} {m : Memory} where
  between : {c : Call} {k : ℕ} → CallGives p m c k → (k < 6) ⊎ (41 ≤ k)
  between (as_solve k h g) = inl h
  between (not_kept u) = inr (omega arith)
  between (unknown u) = inr (omega arith)
  between (outside u) = inr (omega arith)
  between (not_fixed u) = inr (omega arith)

  of_solve : {c : Call} {k : ℕ} → CallGives p m c k → k < 6 → Gives k p m
  of_solve (as_solve k h g) l = g
  of_solve (not_kept u) l = absurd (omega arith)
  of_solve (unknown u) l = absurd (omega arith)
  of_solve (outside u) l = absurd (omega arith)
  of_solve (not_fixed u) l = absurd (omega arith)

  of_41 : {c : Call} {k : ℕ} → CallGives p m c k → k ≡ 41 → Unkept p m
  of_41 (as_solve k h g) q = absurd (omega arith)
  of_41 (not_kept u) q = u
  of_41 (unknown u) q = absurd (omega arith)
  of_41 (outside u) q = absurd (omega arith)
  of_41 (not_fixed u) q = absurd (omega arith)

  of_42 : {c : Call} {k : ℕ} → CallGives p m c k → k ≡ 42 → Unknown p (column_of c)
  of_42 (as_solve k h g) q = absurd (omega arith)
  of_42 (not_kept u) q = absurd (omega arith)
  of_42 (unknown u) q = u
  of_42 (outside u) q = absurd (omega arith)
  of_42 (not_fixed u) q = absurd (omega arith)

  of_43 : {c : Call} {k : ℕ} → CallGives p m c k → k ≡ 43 → Of43 p c
  of_43 (as_solve k h g) q = absurd (omega arith)
  of_43 (not_kept u) q = absurd (omega arith)
  of_43 (unknown u) q = absurd (omega arith)
  of_43 (outside u) q = u
  of_43 (not_fixed u) q = absurd (omega arith)

  of_44 : {c : Call} {k : ℕ} → CallGives p m c k → k ≡ 44 → Of44 p m c
  of_44 (as_solve k h g) q = absurd (omega arith)
  of_44 (not_kept u) q = absurd (omega arith)
  of_44 (unknown u) q = absurd (omega arith)
  of_44 (outside u) q = absurd (omega arith)
  of_44 (not_fixed u) q = u

module _ (p : Plan) (m : Memory) (c : Call) where
  to_41 : NoneBelow 6 p m → NoneBelowCall 41 p m c
  to_41 n j h g = ⊎_elim (λ l. n j l (of_solve g l)) (λ l. absurd (omega arith)) (between g)

  none_more : (k : ℕ) → NoneBelowCall k p m c → ¬ CallGives p m c k → NoneBelowCall (suc k) p m c
  none_more k n g j h x =
      ⊎_elim (λ q. g (subst (λ i. CallGives p m c i) q x)) (λ l. n j l x) (eq-or-lt_of_le (le_of_suc-le-suc h))

  -- one of 41 to 44
  rung : (k : ℕ) {r : Called} (a : FixAnswer) (b : Bool) → (41 ≤ k) × (k < 45) → (b ≡ false) ↔ CallGives p m c k
      → CallRefusal k p m (called a m) → (NoneBelowCall (suc k) p m c → CallCase p m c r) → NoneBelowCall k p m c
      → CallCase p m c (or_else b (called a m) r)
  rung k a true l e says next n = next (none_more k n (λ g. never refl (e.1 g)))
  rung k a false l e says next n = refused k (inr l) (e.0 refl) n says

  -- 1 to 5, with solve's own words
  refused_first : (a : Answer) → 1 ≤ number_of a → number_of a < 6 → solve_plan p m ≡ solved a m
      → CallCase p m c (called (Told a) m)
  unfolding as_fix_row
  refused_first a l h q =
      let k : ℕ = number_of a in
      let told : number_of (solve_plan p m).answer ≡ k = ap (λ (x : Solved). number_of x.answer) q in
      let g = (refusal_exact p m k l (omega arith)).0 told in
      let says = subst (Refusal k p m) q (refusal_says p m k l (omega arith) told) in
      refused k (inl (l, h)) (as_solve k h g.0) (λ j i x. g.1 j i (of_solve x (omega arith)))
      (record {
        number = says.number;
        objective = says.objective;
        steps = says.steps;
        excess = says.excess;
        place = says.place;
        memory = says.memory;
      })

  judged_call : {x u : Solved} {r v : Called} → Judged m x r u v → u ≡ solve_plan p m
      → (number_of x.answer ≡ 0) ⊎ (6 ≤ number_of x.answer)
      → (NoneBelowCall 41 p m c → CallCase p m c r) → CallCase p m c v
  judged_call (turned_away a l h) q late go = refused_first a l h (sym q)
  judged_call let_in q late go = go (to_41 (none_of_five p m (subst (Case p m) (sym q) (cases p m)) late))

  -- then 41 and 42, and what r gives behind them
  before_43 : (r : Called) → (NoneBelowCall 43 p m c → CallCase p m c r)
      → CallCase p m c (or_refused_call p m (column_of c) r)
  unfolding solve_plan Names as_fix_row
  before_43 r go =
      judged_call (judged p m _ _) refl (behind p m (passes6 (problem_of p)) (passes7 (problem_of p) || dual_feasible p))
      (rung 41 NotKept (passes41 p m) (omega arith, omega arith)
      (λ f. not_kept ((unkept_exactly p m).0 f), λ g. (unkept_exactly p m).1 (of_41 g refl))
      (record { number = refl; objective = refl; steps = refl; excess = refl; place = refl; memory = refl })
      (rung 42 BadColumn (passes42 p (column_of c)) (omega arith, omega arith)
      (λ f. unknown ((unknown_exactly p (column_of c)).0 f), λ g. (unknown_exactly p (column_of c)).1 (of_42 g refl))
      (record { number = refl; objective = refl; steps = refl; excess = refl; place = refl; memory = refl })
      go))

module _ (p : Plan) (m : Memory) where
  fix_cases : (j : ℕ) (value : Float) → CallCase p m (fix j value) (fix_plan p j value m)
  unfolding fix_plan Names as_fix_row
  fix_cases j value =
      let c : Call = fix j value in
      before_43 p m c _
      (rung p m c 43 BadValue (passes43 p j value) (omega arith, omega arith)
      (λ f. outside ((outside_exactly p j value).0 f), λ g. (outside_exactly p j value).1 (of_43 g refl))
      (record { number = refl; objective = refl; steps = refl; excess = refl; place = refl; memory = refl })
      (λ n. accepted (none_more p m c 44 n (λ g. of_44 g refl))))

  unfix_cases : (j : ℕ) → CallCase p m (unfix j) (unfix_plan p j m)
  unfolding unfix_plan Names as_fix_row
  unfix_cases j =
      let c : Call = unfix j in
      before_43 p m c _
      (λ n. rung p m c 44 NotFixed (passes44 p m j) (omega arith, omega arith)
      (λ f. not_fixed ((loose_exactly p m j).0 f), λ g. (loose_exactly p m j).1 (of_44 g refl))
      (record { number = refl; objective = refl; steps = refl; excess = refl; place = refl; memory = refl })
      accepted (none_more p m c 43 n (λ g. of_43 g refl)))

  pub call_cases : (c : Call) → CallCase p m c (call_plan p c m)
  call_cases (fix j value) = fix_cases j value
  call_cases (unfix j) = unfix_cases j

-- the number of a call that goes on
ran_number : (P : Problem) (m : Memory) (e : Ended)
    → (call_number (close_call P m e) ≡ 0) ⊎ ((20 ≤ call_number (close_call P m e)) × (call_number (close_call P m e) ≤ 26))
unfolding close_call close as_fix_row
ran_number P m e = late P e.why e.state

module _ (p : Plan) (m : Memory) (c : Call) where
  -- where no refusal is called for, the run's end settles the answer and every lent cell
  closes : {r : Called} → CallCase p m c r → Accepted p m c
      → r ≡ close_call (problem_of p) m (call_end (problem_of p) (kept_state (problem_of p) m) c)
  closes (refused k l g n says) none =
      absurd (none k (⊎_elim (λ x. omega (arith, x.1)) (λ x. omega (arith, x.1)) l) g)
  closes (accepted n) none = refl

  pub call_closes : Accepted p m c
      → call_plan p c m ≡ close_call (problem_of p) m (call_end (problem_of p) (kept_state (problem_of p) m) c)
  call_closes = closes (call_cases p m c)

  module _ (k : ℕ) (range : Refuses k) where
    exact : {r : Called} → CallCase p m c r → (call_number r ≡ k) ↔ (CallGives p m c k × NoneBelowCall k p m c)
    exact (refused i l g n says) = (
      λ q. let e : i ≡ k =
          sym says.number ∙ q in (subst (λ j. CallGives p m c j) e g, subst (λ j. NoneBelowCall j p m c) e n),
      λ s. says.number
          ∙ by_test (ltb i k)
          (λ t. absurd (s.1 i (ltb-true _ _ t) g))
          (λ f. by_test (ltb k i)
          (λ t. absurd (n k (ltb-true _ _ t) s.0))
          (λ l. le_antisymm (ltb-false _ _ l) (ltb-false _ _ f))),
    )
    exact (accepted n) = (
      λ q. absurd (⊎_elim (λ z. ⊎_elim (λ x. omega (arith, q, z, x.0)) (λ x. omega (arith, q, z, x.0)) range)
          (λ z. ⊎_elim (λ x. omega (arith, q, z.0, x.1)) (λ x. omega (arith, q, z.1, x.0)) range)
          (ran_number (problem_of p) m (call_end (problem_of p) (kept_state (problem_of p) m) c))),
      λ s. absurd (n k (⊎_elim (λ x. omega (arith, x.1)) (λ x. omega (arith, x.1)) range) s.0),
    )

    -- 02: "Refuse, lowest first": each of 1 to 5 and 41 to 44 is given exactly when it is called for and none below it
    -- is
    pub call_refusal_exact : (call_number (call_plan p c m) ≡ k) ↔ (CallGives p m c k × NoneBelowCall k p m c)
    call_refusal_exact = exact (call_cases p m c)

    says_so : {r : Called} → CallCase p m c r → call_number r ≡ k → CallRefusal k p m r
    says_so {r} (refused i l g n says) q = subst (λ j. CallRefusal j p m r) (sym says.number ∙ q) says
    says_so (accepted n) q =
        let g = (exact (accepted n)).0 q in
        absurd (n k (⊎_elim (λ x. omega (arith, x.1)) (λ x. omega (arith, x.1)) range) g.0)

    -- "and changing nothing": every lent cell stays, objective +0.0, 0 steps
    pub call_refusal_says : call_number (call_plan p c m) ≡ k → CallRefusal k p m (call_plan p c m)
    call_refusal_says = says_so (call_cases p m c)

  -- a call is refused, and then leaves the memory as it was, or accepted
  pub refused_or_not : ((call_plan p c m).memory ≡ m) ⊎ Accepted p m c
  refused_or_not = go (call_cases p m c)
    where
      go : {r : Called} → CallCase p m c r → (r.memory ≡ m) ⊎ Accepted p m c
      go (refused k l g n says) = inl says.memory
      go (accepted n) = inr n

  -- an answer of 0 or 20 to 26 says that it was accepted
  pub ran_accepted : (call_number (call_plan p c m) ≡ 0) ⊎
      ((20 ≤ call_number (call_plan p c m)) × (call_number (call_plan p c m) ≤ 26)) → Accepted p m c
  ran_accepted = go (call_cases p m c)
    where
      go : {r : Called} → CallCase p m c r → (call_number r ≡ 0) ⊎ ((20 ≤ call_number r) × (call_number r ≤ 26))
          → Accepted p m c
      go (refused k l g n says) q =
          absurd (⊎_elim
          (λ z. ⊎_elim (λ x. omega (arith, says.number, x.0)) (λ x. omega (arith, says.number, x.0)) l)
          (λ z. ⊎_elim (λ x. omega (arith, says.number, z.0, x.1)) (λ x. omega (arith, says.number, z.1, x.0)) l)
          q)
      go (accepted n) q = n
