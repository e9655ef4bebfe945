-- The wrong programs of 01 about the solver: each breaks the promise of `solve` on a night case. A program here is any function from what is lent to an
-- answer and what is lent afterwards; the promise is the equation that `solve` meets. Assumes nothing.
use mathlib.Core.Path.{◌≡◌, ap, ◌∙◌}
use mathlib.Core.List.{List, []}
use Prim.Native.Nat.{ℕ, ◌≤◌}
use native.Mathlib.Omega.{arith}
use lib.ListN.{get_or}
use Rattle.rules.specs.Plan.{Plan, Memory}
use Rattle.rules.specs.Answers.{as_row}
use Rattle.rules.specs.Solve.{Solved, solve_plan}
use Rattle.night.specs.Plans.{N1, N2, N3, room_for}
use Rattle.night.specs.Cases.{Shown, solves, judges, shown, wanted, cases}
use Rattle.night.proofs.Night.{night}
use Rattle.sheet_rules.specs.declared.Verdict.TheVariants.{NotPlan}

module _ (program : Plan → Memory → Solved) where
  -- the promise, on memory of exactly the needed lengths
  abbrev Promised : Plan → Type 0
  Promised p = program p (room_for p) ≡ solve_plan p (room_for p)

  -- 01's number of the answer, and its steps
  abbrev number : Plan → ℕ
  number p = (as_row (program p (room_for p)).answer).number

  abbrev steps : Plan → ℕ
  steps p = (as_row (program p (room_for p)).answer).steps

-- of a plan's case in the list: 01's number, and the steps
abbrev number_in : Shown → ℕ
number_in (solves a v k) = a.number
number_in (judges n d b v) = n

abbrev steps_in : Shown → ℕ
steps_in (solves a v k) = a.steps
steps_in (judges n d b v) = 0

abbrev case : ℕ → List Shown → Shown
case k l = get_or l k (judges 0 [] [] NotPlan)

-- N1 is Optimal after 1 step, N2 after 2, and N3 gives 20
n1_optimal : (as_row (solve_plan (N1 10) (room_for (N1 10))).answer).number ≡ 0
unfolding cases shown wanted
n1_optimal = ap (λ (l : List Shown). number_in (case 0 l)) night

n1_steps : (as_row (solve_plan (N1 10) (room_for (N1 10))).answer).steps ≡ 1
unfolding cases shown wanted
n1_steps = ap (λ (l : List Shown). steps_in (case 0 l)) night

n2_steps : (as_row (solve_plan (N2 10) (room_for (N2 10))).answer).steps ≡ 2
unfolding cases shown wanted
n2_steps = ap (λ (l : List Shown). steps_in (case 2 l)) night

n3_unbounded : (as_row (solve_plan N3 (room_for N3)).answer).number ≡ 20
unfolding cases shown wanted
n3_unbounded = ap (λ (l : List Shown). number_in (case 4 l)) night

module _ (program : Plan → Memory → Solved) where
  kept_number : (p : Plan) → Promised program p → number program p ≡ (as_row (solve_plan p (room_for p)).answer).number
  kept_number p h = ap (λ (r : Solved). (as_row r.answer).number) h

  kept_steps : (p : Plan) → Promised program p → steps program p ≡ (as_row (solve_plan p (room_for p)).answer).steps
  kept_steps p h = ap (λ (r : Solved). (as_row r.answer).steps) h

  -- 01: "a solver that refuses all plans"
  pub refuses_all : ((p : Plan) → (1 ≤ number program p) × (number program p ≤ 7)) → Promised program (N1 10) → ⊥
  refuses_all wrong h = omega (arith, (wrong (N1 10)).0, kept_number (N1 10) h ∙ n1_optimal)

  -- "or always says Spent"
  pub always_spent : ((p : Plan) → number program p ≡ 21) → Promised program (N1 10) → ⊥
  always_spent wrong h = omega (arith, wrong (N1 10), kept_number (N1 10) h ∙ n1_optimal)

  -- "one that always says Optimal"
  pub always_optimal : ((p : Plan) → number program p ≡ 0) → Promised program N3 → ⊥
  always_optimal wrong h = omega (arith, wrong N3, kept_number N3 h ∙ n3_unbounded)

  -- "a run that settles everything in its first step"
  pub all_at_once : ((p : Plan) → steps program p ≤ 1) → Promised program (N2 10) → ⊥
  all_at_once wrong h = omega (arith, wrong (N2 10), kept_steps (N2 10) h ∙ n2_steps)

  -- "or invents its step count": whatever the plan, the same one
  pub invents_steps : (k : ℕ) → ((p : Plan) → steps program p ≡ k) → Promised program (N1 10) → Promised program (N2 10) → ⊥
  invents_steps k wrong h i = omega (arith, wrong (N1 10), wrong (N2 10), kept_steps (N1 10) h ∙ n1_steps, kept_steps (N2 10) i ∙ n2_steps)
