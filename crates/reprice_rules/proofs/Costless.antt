-- A plan with costs 0 passes what the plan passes, and every start of it is dual feasible: solve gives it none of 1 to
-- 7. Assumes nothing.
use mathlib.Core.Path.{◌≡◌, refl, sym, ◌∙◌, subst}
use mathlib.Core.Bool.{Bool, true, false, ◌&&◌, ◌||◌}
use mathlib.Core.Logic.{◌⊎◌}
use Prim.Native.Nat.{ℕ, ◌<◌, ◌≤◌}
use native.Mathlib.Omega.{arith}
use lib.Dec.{eqb}
use lib.ListN.{length, length-replicate, get_or-replicate}
use lib.Ieee.{Float, nan, lt, le, eq, of_bits}
use borrow.Author.Tests.{le-leb, eqb-true}
use Rattle.doubles.specs.Num.{f0, finite, infinite, size}
use Rattle.doubles.specs.Limits.{max_columns}
use Rattle.doubles.specs.Lists.{◌!◌, ◌#◌}
use Rattle.doubles.proofs.Bools.{never}
use Rattle.doubles.proofs.Loops.{both_true, all_by}
use Rattle.doubles.proofs.Order.{lt_irrefl}
use Rattle.rules.specs.Plan.{Plan, Memory, problem_of}
use Rattle.rules.specs.Refusals.{sizes_fit, plan_long, memory_long, starts_rise, passes1, is_number, is_lower, is_upper, is_op, passes2, first_bad_row, first_crossed, first_false}
use Rattle.rules.specs.Start.{start_dual, dual_feasible, passes6, passes7}
use Rattle.rules.specs.Answers.{as_row, number_of}
use Rattle.rules.specs.Solve.{Solved, solved, close, end_of, or_else, solve_plan}
use Rattle.rules.specs.declared.Answer.{Answer}
use Rattle.rules.specs.declared.Answer.TheVariants.{BadSize, BadNumber, BadEntry, CrossedBounds, FalseEmptyRow}
use Rattle.rules.proofs.Lengths.{arrays, contents}
use Rattle.rules.proofs.Start.{passed_fits}
use Rattle.rules.proofs.StartFinite.{start_finite}
use Rattle.fix_rules.proofs.Honest.{and}
use Rattle.fix_rules.proofs.Refusals.{late}
use Rattle.reprice_rules.specs.Any.{zero_costs, costless}

-- ---- tests that pass
pub through : {A : Type 0} (b : Bool) (a r : A) → b ≡ true → or_else b a r ≡ r
through true a r q = refl
through false a r q = never q refl

-- those of 1 to 5
pub record Five (p : Plan) (m : Memory) : Type 0 where
  pub one : passes1 p m ≡ true
  pub two : passes2 p ≡ true
  pub three : eqb (first_bad_row p) p.rows ≡ true
  pub four : eqb (first_crossed p) p.columns ≡ true
  pub five : eqb (first_false p) p.rows ≡ true

-- where the answer is 7 they have passed
ask : (m : Memory) (b : Bool) (a : Answer) (x : Solved) → ¬ (number_of a ≡ 7) → number_of (or_else b (solved a m) x).answer ≡ 7
    → (b ≡ true) × (number_of x.answer ≡ 7)
ask m true a x n q = (refl, q)
ask m false a x n q = absurd (n q)

pub seven_passes : (p : Plan) (m : Memory) → number_of (solve_plan p m).answer ≡ 7 → Five p m
unfolding solve_plan as_row
seven_passes p m q =
    let a = ask m (passes1 p m) BadSize _ (λ z. omega (arith, z)) q in
    let b = ask m (passes2 p) BadNumber _ (λ z. omega (arith, z)) a.1 in
    let c = ask m (eqb (first_bad_row p) p.rows) (BadEntry _ _) _ (λ z. omega (arith, z)) b.1 in
    let d = ask m (eqb (first_crossed p) p.columns) (CrossedBounds _) _ (λ z. omega (arith, z)) c.1 in
    let e = ask m (eqb (first_false p) p.rows) (FalseEmptyRow _) _ (λ z. omega (arith, z)) d.1 in
    record { one = a.0; two = b.0; three = c.0; four = d.0; five = e.0 }

-- ---- costs 0
zero_number : is_number f0 ≡ true
unfolding le size of_bits
zero_number = refl

zero_same : eq f0 f0 ≡ true
unfolding eq of_bits
zero_same = refl

-- "Zero cost": no price has a wrong sign, whatever the bounds are
zero_dual : (lo hi : Float) → start_dual f0 lo hi ≡ true
unfolding start_dual
zero_dual lo hi = go (eq lo hi) (infinite lo && infinite hi) (lt f0 f0) (lt f0 f0) (lt_irrefl f0) (lt_irrefl f0)
  where
    go : (a b c d : Bool) → c ≡ false → d ≡ false
        → elim a [
          | true ↦ true
          | false ↦ elim b [
            | true ↦ eq f0 f0
            | false ↦ elim c [ true ↦ finite lo | false ↦ elim d [ true ↦ finite hi | false ↦ true ] ]
          ]
        ] ≡ true
    go true b c d q r = refl
    go false true c d q r = zero_same
    go false false true d q r = never refl q
    go false false false true q r = never refl r
    go false false false false q r = refl

module _ (p : Plan) (m : Memory) (t : Five p m) where
  columns_most : p.columns ≤ max_columns
  columns_most = omega (arith, (passed_fits p m t.one t.two (eqb-true _ _ t.three)).plan.columns_most)

  zero_at : (j : ℕ) → j < p.columns → zero_costs ! j ≡ f0
  zero_at j h = get_or-replicate max_columns j f0 nan (omega (arith, columns_most))

  plan_long_holds : plan_long p ≡ true → plan_long (costless p) ≡ true
  unfolding plan_long
  plan_long_holds e =
      let l = arrays p e in
      let costs = le-leb p.columns (length zero_costs) (omega (arith, columns_most, length-replicate max_columns f0)) in
      and (and (and (and (and (and (and costs (le-leb _ _ l.lowers_long)) (le-leb _ _ l.uppers_long))
      (le-leb _ _ l.starts_long)) (le-leb _ _ l.cols_long)) (le-leb _ _ l.coeffs_long))
      (le-leb _ _ l.ops_long)) (le-leb _ _ l.rhs_long)

  passes_one : passes1 (costless p) m ≡ true
  unfolding passes1 sizes_fit memory_long starts_rise
  passes_one =
      let a = both_true (sizes_fit p && plan_long p && memory_long p m) (starts_rise p) t.one in
      let b = both_true (sizes_fit p && plan_long p) (memory_long p m) a.0 in
      let c = both_true (sizes_fit p) (plan_long p) b.0 in
      and (and (and c.0 (plan_long_holds c.1)) b.1) a.1

  passes_two : passes2 (costless p) ≡ true
  unfolding passes2
  passes_two =
      let c = contents p t.two in
      let costs = all_by (λ j. is_number (zero_costs ! j)) p.columns (λ j h. rw (zero_at j h) zero_number) in
      and (and (and (and (and (and costs
      (all_by (λ j. is_lower (p.lowers ! j)) p.columns c.lower))
      (all_by (λ j. is_upper (p.uppers ! j)) p.columns c.upper))
      (all_by (λ k. is_number (p.coeffs ! k)) p.entries c.coeff))
      (all_by (λ i. is_op (p.ops # i)) p.rows c.op))
      (all_by (λ i. is_number (p.rhs ! i)) p.rows c.right))
      c.tolerance

  pub costless_five : Five (costless p) m
  unfolding first_bad_row first_crossed first_false
  costless_five = record { one = passes_one; two = passes_two; three = t.three; four = t.four; five = t.five }

  -- its start is dual feasible
  pub costless_dual : dual_feasible (costless p) ≡ true
  unfolding dual_feasible
  costless_dual =
      all_by (λ j. start_dual (zero_costs ! j) (p.lowers ! j) (p.uppers ! j)) p.columns
      (λ j h. rw (zero_at j h) (zero_dual (p.lowers ! j) (p.uppers ! j)))

  either_way : (a b : Bool) → b ≡ true → a || b ≡ true
  either_way true b q = refl
  either_way false b q = q

  -- so solve runs it
  pub costless_closes : solve_plan (costless p) m ≡ close (problem_of (costless p)) m (end_of (problem_of (costless p)) m)
  unfolding solve_plan
  costless_closes =
      let z = costless_five in
      let p0 = costless p in
      through (passes1 p0 m) _ _ z.one
      ∙ through (passes2 p0) _ _ z.two
      ∙ through (eqb (first_bad_row p0) p0.rows) _ _ z.three
      ∙ through (eqb (first_crossed p0) p0.columns) _ _ z.four
      ∙ through (eqb (first_false p0) p0.rows) _ _ z.five
      ∙ through (passes6 (problem_of p0)) _ _ (start_finite p0 m z.one z.two (eqb-true _ _ z.three))
      ∙ through (passes7 (problem_of p0) || dual_feasible p0) _ _ (either_way (passes7 (problem_of p0)) (dual_feasible p0) costless_dual)

  -- and its answer is 0 or one of 20 to 26
  pub costless_number : (number_of (solve_plan (costless p) m).answer ≡ 0)
      ⊎ ((20 ≤ number_of (solve_plan (costless p) m).answer) × (number_of (solve_plan (costless p) m).answer ≤ 26))
  unfolding close
  costless_number =
      let e = end_of (problem_of (costless p)) m in
      subst (λ (r : Solved). (number_of r.answer ≡ 0) ⊎ ((20 ≤ number_of r.answer) × (number_of r.answer ≤ 26)))
      (sym costless_closes) (late (problem_of (costless p)) e.why e.state)
