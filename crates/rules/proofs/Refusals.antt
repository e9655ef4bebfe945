-- 01, "When the gateway says no": each of 1 to 7 is given exactly when its condition holds and none of a lower number does. Assumes nothing.
use mathlib.Core.Path.{◌≡◌, refl, sym, ◌∙◌, subst}
use mathlib.Core.Bool.{Bool, true, false, ◌||◌, and_assoc}
use mathlib.Core.Logic.{◌↔◌, ◌⊎◌, inl, inr, ⊎_elim}
use Prim.Native.Nat.{ℕ, suc, ◌<◌, ◌≤◌}
use native.Mathlib.Nat.{eq-or-lt_of_le, le_of_suc-le-suc, le_antisymm}
use native.Mathlib.Omega.{arith}
use borrow.Author.Tests.{ltb-true, ltb-false, eqb-true}
use lib.Dec.{ltb, eqb}
use Rattle.doubles.proofs.Bools.{◌or◌, ◌both◌, ◌either◌, by_test, itself, never, turned_true, leb_fails, leb_holds, ltb_holds, eqb_holds, eqb_fails, some_fails, first_has, first_below, first_named, first_misses}
use Rattle.doubles.proofs.Tests.{true_by}
use Rattle.doubles.proofs.Bounds.{number_fails, bound_fails}
use Rattle.rules.specs.Plan.{Plan, Memory, Workspace, State, Problem, problem_of, m_of, row_cols}
use Rattle.rules.specs.Refusals.{sizes_fit, plan_long, store_is_long, workspace_long, memory_long, starts_rise, passes1, passes2, bad_at, has_bad, first_bad_row, first_bad_in, crossed, first_crossed, false_row, first_false}
use Rattle.rules.specs.Start.{passes6, passes7, dual_feasible}
use Rattle.rules.proofs.StartFinite.{start_finite}
use Rattle.rules.specs.FinalCheck.{values_of, final_check}
use Rattle.rules.specs.Step.{ended}
use Rattle.rules.specs.Answers.{as_row, number_of}
use Rattle.rules.specs.Solve.{Solved, solved, or_refuse, close, end_of, checked_answer, answer_of, solve_plan}
use Rattle.rules.specs.declared.Stop.{Stop}
use Rattle.rules.specs.declared.Stop.TheVariants.{Finished, Spent, Unbounded, NotFinite, Singular, Infeasible}
use Rattle.rules.specs.declared.Checked.{Checked}
use Rattle.rules.specs.declared.Checked.TheVariants.{Passed, Value, Row}
use Rattle.rules.specs.declared.Answer.{Answer}
use Rattle.rules.specs.declared.Answer.TheVariants.{BadSize, BadNumber, BadEntry, CrossedBounds, FalseEmptyRow, StartNotFinite, SlackOutside}
use Rattle.rules.specs.Conditions.{Some, FirstBad, Names, Refusal, SizeOver, PlanShort, WorkspaceShort, MemoryShort, StartsBad, Gives1, Gives2, Bad, BadRow, Crossed, EmptyFalse, Gives6, Outside, Gives, NoneBelow}

-- ---- each test fails exactly where its condition holds
sizes : (p : Plan) → (sizes_fit p ≡ false) ↔ SizeOver p
unfolding sizes_fit SizeOver
sizes p = simp and_assoc (leb_fails _ _ or leb_fails _ _ or leb_fails _ _ or leb_fails _ _)

plan_arrays : (p : Plan) → (plan_long p ≡ false) ↔ PlanShort p
unfolding plan_long PlanShort
plan_arrays p = simp and_assoc (leb_fails _ _ or leb_fails _ _ or leb_fails _ _ or leb_fails _ _ or leb_fails _ _ or leb_fails _ _ or leb_fails _ _ or leb_fails _ _)

starts : (p : Plan) → (starts_rise p ≡ false) ↔ StartsBad p
unfolding starts_rise StartsBad
starts p = simp and_assoc (eqb_fails _ _ or some_fails _ (λ r. leb_fails _ _) or eqb_fails _ _)

workspace : (n m : ℕ) (w : Workspace) → (workspace_long n m w ≡ false) ↔ WorkspaceShort n m w
unfolding workspace_long store_is_long WorkspaceShort
workspace n m w =
    simp and_assoc
    (leb_fails _ _
    or leb_fails _ _
    or leb_fails _ _
    or leb_fails _ _
    or leb_fails _ _
    or leb_fails _ _
    or leb_fails _ _
    or leb_fails _ _
    or leb_fails _ _
    or leb_fails _ _
    or leb_fails _ _
    or leb_fails _ _
    or leb_fails _ _)

memory_arrays : (p : Plan) (m : Memory) → (memory_long p m ≡ false) ↔ MemoryShort p m
unfolding memory_long MemoryShort
memory_arrays p m = simp and_assoc
    (leb_fails _ _ or leb_fails _ _ or workspace _ _ _ or leb_fails _ _ or leb_fails _ _ or leb_fails _ _ or leb_fails _ _)

one : (p : Plan) (m : Memory) → (passes1 p m ≡ false) ↔ Gives1 p m
unfolding passes1 Gives1
one p m = simp and_assoc (sizes p or plan_arrays p or memory_arrays p m or starts p)

two : (p : Plan) → (passes2 p ≡ false) ↔ Gives2 p
unfolding passes2 Gives2
two p =
    simp and_assoc
    (some_fails _ (λ j. number_fails _)
    or some_fails _ (λ j. bound_fails true _)
    or some_fails _ (λ j. bound_fails false _)
    or some_fails _ (λ k. number_fails _)
    or some_fails _ (λ i. leb_fails _ _)
    or some_fails _ (λ i. number_fails _)
    or itself
    or itself)

bad : (p : Plan) (i k : ℕ) → (bad_at p.columns (row_cols p i) k ≡ true) ↔ Bad p i k
unfolding bad_at Bad
bad p i k = leb_holds _ _ either (ltb_holds _ _ both leb_holds _ _)

bad_row : (p : Plan) (i : ℕ) → (has_bad p i ≡ true) ↔ BadRow p i
bad_row p i = first_below _ (bad p i)

three : (p : Plan) → (eqb (first_bad_row p) p.rows ≡ false) ↔ Some p.rows (BadRow p)
unfolding first_bad_row
three p = first_misses _ (bad_row p)

cross : (p : Plan) (j : ℕ) → (crossed p j ≡ true) ↔ Crossed p j
unfolding Crossed
cross p j = itself

four : (p : Plan) → (eqb (first_crossed p) p.columns ≡ false) ↔ Some p.columns (Crossed p)
unfolding first_crossed
four p = first_misses _ (cross p)

empty_false : (p : Plan) (i : ℕ) → (false_row p i ≡ true) ↔ EmptyFalse p i
unfolding EmptyFalse
empty_false p i = eqb_holds _ _ both turned_true itself

five : (p : Plan) → (eqb (first_false p) p.rows ≡ false) ↔ Some p.rows (EmptyFalse p)
unfolding first_false
five p = first_misses _ (empty_false p)

six : (P : Problem) → (passes6 P ≡ false) ↔ Gives6 P
unfolding passes6 Gives6
six P = simp and_assoc (some_fails _ (λ j. itself) or some_fails _ (λ r. itself) or itself or some_fails _ (λ j. itself))

slacks : (P : Problem) → (passes7 P ≡ false) ↔ Some (m_of P) (Outside P)
unfolding passes7 Outside
slacks P = some_fails _ (λ r. itself or itself)

-- 02: "exactly when a slack is outside and the start isn't dual feasible"
seven : (P : Problem) → (passes7 P || dual_feasible P.plan ≡ false) ↔ (Some (m_of P) (Outside P) × (dual_feasible P.plan ≡ false))
seven P = go (passes7 P) refl (dual_feasible P.plan) refl
  where
    go : (a : Bool) → passes7 P ≡ a → (b : Bool) → dual_feasible P.plan ≡ b
        → (a || b ≡ false) ↔ (Some (m_of P) (Outside P) × (b ≡ false))
    go true q b h = (λ f. never refl f, λ x. never q ((slacks P).1 x.0))
    go false q b h = (λ f. ((slacks P).0 q, f), λ x. x.1)

first_bad : (p : Plan) → eqb (first_bad_row p) p.rows ≡ false → FirstBad p (first_bad_row p) (first_bad_in p (first_bad_row p))
unfolding first_bad_row
first_bad p f =
    let s = first_named p.rows (bad_row p) f in
    (s, first_has _ (bad p (first_bad_row p)) (ltb-true _ _ ((bad_row p (first_bad_row p)).1 s.1)))

-- ---- "The lowest number that applies is given"

-- how the gateway comes to its answer: by the lowest refusal that is called for, or by none
pub data Case (p : Plan) (m : Memory) : Solved → Type 0 where
  refused : {r : Solved} (k : ℕ) → 1 ≤ k → k < 8 → Gives k p m → NoneBelow k p m → Refusal k p m r → Case p m r
  accepted : NoneBelow 8 p m → Case p m (close (problem_of p) m (end_of (problem_of p) m))

module _ (p : Plan) (m : Memory) where
  none_more : (k : ℕ) → NoneBelow k p m → ¬ Gives k p m → NoneBelow (suc k) p m
  none_more k n g j h x = ⊎_elim (λ q. g (subst (λ i. Gives i p m) q x)) (λ l. n j l x) (eq-or-lt_of_le (le_of_suc-le-suc h))

  rung : (k : ℕ) {r : Solved} (a : Answer) (b : Bool) → 1 ≤ k → k < 8 → (b ≡ false) ↔ Gives k p m → (b ≡ false → Refusal k p m (solved a m)) → (NoneBelow (suc k) p m → Case p m r) → NoneBelow k p m → Case p m (or_refuse b a m r)
  rung k a true l h e says next n = next (none_more k n (λ g. never refl (e.1 g)))
  rung k a false l h e says next n = refused k l h (e.0 refl) n (says refl)

  pub cases : Case p m (solve_plan p m)
  unfolding solve_plan Gives Names as_row first_crossed first_false
  cases =
      rung 1 BadSize _ (omega arith) (omega arith) (one p m) (λ _. record { number = refl; objective = refl; steps = refl; excess = refl; place = refl; memory = refl })
      (rung 2 BadNumber _ (omega arith) (omega arith) (two p) (λ _. record { number = refl; objective = refl; steps = refl; excess = refl; place = refl; memory = refl })
      (rung 3 (BadEntry _ _) _ (omega arith) (omega arith) (three p) (λ f. record { number = refl; objective = refl; steps = refl; excess = refl; place = (_, _, refl, first_bad p f); memory = refl })
      (rung 4 (CrossedBounds _) _ (omega arith) (omega arith) (four p) (λ f. record { number = refl; objective = refl; steps = refl; excess = refl; place = (_, refl, first_named _ (cross p) f); memory = refl })
      (rung 5 (FalseEmptyRow _) _ (omega arith) (omega arith) (five p) (λ f. record { number = refl; objective = refl; steps = refl; excess = refl; place = (_, refl, first_named _ (empty_false p) f); memory = refl })
      (rung 6 StartNotFinite _ (omega arith) (omega arith) (six (problem_of p)) (λ _. record { number = refl; objective = refl; steps = refl; excess = refl; place = refl; memory = refl })
      (rung 7 SlackOutside _ (omega arith) (omega arith) (seven (problem_of p)) (λ _. record { number = refl; objective = refl; steps = refl; excess = refl; place = refl; memory = refl })
      accepted))))))
      (none_more 0 (λ j h. absurd (omega arith)) (λ g. g))

  -- where 1 to 3 aren't called for, their tests pass, and 6's with them
  pub record Passes : Type 0 where
    pub passes_1 : passes1 p m ≡ true
    pub passes_2 : passes2 p ≡ true
    pub passes_3 : first_bad_row p ≡ p.rows
    pub passes_6 : passes6 (problem_of p) ≡ true

  pub none_refused : NoneBelow 4 p m → Passes
  unfolding Gives
  none_refused n =
      let a = true_by (λ f. n 1 (omega arith) ((one p m).0 f)) in
      let b = true_by (λ f. n 2 (omega arith) ((two p).0 f)) in
      let c = eqb-true _ _ (true_by (λ f. n 3 (omega arith) ((three p).0 f))) in
      record { passes_1 = a; passes_2 = b; passes_3 = c; passes_6 = start_finite p m a b c }

-- a run's answer has another number
checked_late : (s : State) (c : Checked) → (number_of (checked_answer s c) ≡ 0) ⊎ (8 ≤ number_of (checked_answer s c))
unfolding checked_answer as_row
checked_late s (Passed x) = inl refl
checked_late s (Value v x) = inr (omega arith)
checked_late s (Row r x) = inr (omega arith)

late : (P : Problem) (w : Stop) (s : State) → (number_of (answer_of P (ended w s)) ≡ 0) ⊎ (8 ≤ number_of (answer_of P (ended w s)))
unfolding answer_of as_row
late P Finished s = checked_late s (final_check P (values_of P s.ws))
late P Spent s = inr (omega arith)
late P Unbounded s = inr (omega arith)
late P Singular s = inr (omega arith)
late P NotFinite s = inr (omega arith)
late P (Infeasible r) s = inr (omega arith)

module _ (p : Plan) (m : Memory) (k : ℕ) (low : 1 ≤ k) (high : k < 8) where
  exact : {r : Solved} → Case p m r → (number_of r.answer ≡ k) ↔ (Gives k p m × NoneBelow k p m)
  unfolding close
  exact (refused i l h g n says) = (
    λ q. let e : i ≡ k = sym says.number ∙ q in (subst (λ j. Gives j p m) e g, subst (λ j. NoneBelow j p m) e n),
    λ s. says.number
        ∙ by_test (ltb i k)
        (λ t. absurd (s.1 i (ltb-true _ _ t) g))
        (λ f. by_test (ltb k i) (λ t. absurd (n k (ltb-true _ _ t) s.0)) (λ l. le_antisymm (ltb-false _ _ l) (ltb-false _ _ f))),
  )
  exact (accepted n) =
      let e = end_of (problem_of p) m in
      (λ q. absurd (⊎_elim (λ z. omega (arith, q, z)) (λ z. omega (arith, q, z)) (late (problem_of p) e.why e.state)), λ s. absurd (n k high s.0))

  -- 01: "The lowest number that applies is given": each of 1 to 7 is given exactly when its condition holds and none of a lower number does
  pub refusal_exact : (number_of (solve_plan p m).answer ≡ k) ↔ (Gives k p m × NoneBelow k p m)
  refusal_exact = exact (cases p m)

  says_so : {r : Solved} → Case p m r → number_of r.answer ≡ k → Refusal k p m r
  unfolding close
  says_so {r} (refused i l h g n says) q = subst (λ j. Refusal j p m r) (sym says.number ∙ q) says
  says_so (accepted n) q = let g = (exact (accepted n)).0 q in absurd (n k high g.0)

  -- 01: "1 to 7 are refusals: all lent memory stays, objective 0.0, 0 steps"; 3, 4 and 5 name the first place: no bad one stands before it
  pub refusal_says : number_of (solve_plan p m).answer ≡ k → Refusal k p m (solve_plan p m)
  refusal_says = says_so (cases p m)

-- 02: "show that 6 is no longer given": where 1 to 3 have passed, every number of the start is finite
pub six_never : (p : Plan) (m : Memory) → ¬ (number_of (solve_plan p m).answer ≡ 6)
unfolding Gives
six_never p m q =
    let g = (refusal_exact p m 6 (omega arith) (omega arith)).0 q in
    never (none_refused p m (λ j h. g.1 j (omega arith))).passes_6 ((six (problem_of p)).1 g.0)
