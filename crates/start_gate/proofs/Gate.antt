-- Each answer of the gateway by its tests, and what it is to the whole solve. Assumes nothing.
use mathlib.Core.Path.{◌≡◌, refl, ap}
use mathlib.Core.Bool.{Bool, true, false, ◌&&◌, ◌||◌}
use mathlib.Core.List.{[]}
use Prim.Native.Nat.{ℕ, ◌≤◌}
use native.Mathlib.Omega.{arith}
use lib.Dec.{eqb}
use borrow.Author.Tests.{leb-true, eqb-true}
use Rattle.doubles.specs.Num.{f0}
use Rattle.doubles.specs.Limits.{max_columns, max_rows}
use Rattle.doubles.proofs.Loops.{both_true}
use Rattle.rules.specs.Plan.{Plan, Memory, Problem, problem_of, n_of, column}
use Rattle.rules.specs.Parts.{plan_of, problem}
use Rattle.rules.specs.Refusals.{sizes_fit, plan_long, memory_long, starts_rise, passes1, passes2, first_bad_row}
use Rattle.rules.specs.Start.{start_vals, start_objective, start_slack, start_norm, passes6, passes7, dual_feasible}
use Rattle.rules.specs.Solve.{Solved, solved, or_refuse, close, end_of, solve_plan}
use Rattle.rules.specs.declared.Answer.{Answer}
use Rattle.rules.specs.declared.Answer.TheVariants.{BadSize, BadNumber, BadEntry, StartNotFinite, SlackOutside}
use Rattle.plan.specs.Refused.{passing, refusal_of}
use Rattle.std.specs.Prelude.{Option, Some, None}
use Rattle.plan.proofs.Ladder.{from_six, solved_by, too_short, by_refusal}
use Rattle.start.specs.Reckoned.{Numbers, reckoned}
use Rattle.start_gate.specs.Gate.{Scratch, refused, filled, refusal_by, begun}

-- ---- 1 to 5
module _ (p : Plan) (m : Memory) where
  -- the sizes may be added
  pub sizes_small : sizes_fit p ≡ true → (p.columns ≤ max_columns) × (p.rows ≤ max_rows)
  unfolding sizes_fit
  sizes_small e = let c = both_true _ _ (both_true _ _ (both_true _ _ e).0).0 in (leb-true _ _ c.0, leb-true _ _ c.1)

  -- as `memory_long` is lent it
  pub memory_part : memory_long p m ≡ memory_long (plan_of p.columns p.rows 0 0 f0 [] [] [] [] [] [] [] []) m
  unfolding memory_long
  memory_part = refl

  pub size_over : sizes_fit p ≡ false → Some BadSize ≡ refusal_by p m
  unfolding refusal_by
  size_over e = rw (e, refusal_by)

  pub plan_short : sizes_fit p ≡ true → plan_long p ≡ false → Some BadSize ≡ refusal_by p m
  unfolding refusal_by
  plan_short a e = rw (a, e, refusal_by)

  pub memory_short : sizes_fit p ≡ true → plan_long p ≡ true → memory_long p m ≡ false → Some BadSize ≡ refusal_by p m
  unfolding refusal_by
  memory_short a b e = rw (a, b, e, refusal_by)

  pub long_enough : sizes_fit p ≡ true → plan_long p ≡ true → memory_long p m ≡ true → refusal_of p ≡ refusal_by p m
  unfolding refusal_by
  long_enough a b e = rw (a, b, e, refusal_by)

  -- ---- for the caller
  pub solved_by_holds : solve_plan p m ≡ solved_by p m (refusal_by p m)
  unfolding refusal_by
  solved_by_holds = go (sizes_fit p && plan_long p && memory_long p m) refl
    where
      go : (b : Bool) → sizes_fit p && plan_long p && memory_long p m ≡ b → solve_plan p m ≡ solved_by p m (passing b BadSize (refusal_of p))
      go true e = by_refusal p m e
      go false e = too_short p m e

  pub record Accepted : Type 0 where
    pub sizes : sizes_fit p ≡ true
    pub lent : memory_long p m ≡ true
    pub passes_1 : passes1 p m ≡ true
    pub passes_2 : passes2 p ≡ true
    pub passes_3 : first_bad_row p ≡ p.rows

  -- a rung that refuses nothing has passed
  passed : (a : Answer) (b : Bool) (r : Option Answer) → None ≡ passing b a r → (b ≡ true) × (None ≡ r)
  passed a true r e = (refl, e)
  passed a false r e = absurd (let z : ◌≡◌ {A = ℕ} 0 1 = cc in omega arith)

  pub accepted : None ≡ refusal_by p m → Accepted
  unfolding refusal_by refusal_of passes1
  accepted e =
      let a = passed BadSize (sizes_fit p && plan_long p && memory_long p m) _ e in
      let b = passed BadSize (starts_rise p) _ a.1 in
      let c = passed BadNumber (passes2 p) _ b.1 in
      let d = passed (BadEntry _ _) (eqb (first_bad_row p) p.rows) _ c.1 in
      let l = both_true (sizes_fit p && plan_long p) (memory_long p m) a.0 in
      record { sizes = (both_true (sizes_fit p) (plan_long p) l.0).0; lent = l.1; passes_1 = rw (a.0, b.0); passes_2 = c.0; passes_3 = eqb-true _ _ d.0 }

-- ---- 6 and 7
module _ (P : Problem) (s : Numbers) where
  pub starts_wild : passes6 P ≡ false → refused StartNotFinite ≡ begun P s
  unfolding begun
  starts_wild e = rw (e, begun)

  pub starts_outside : passes6 P ≡ true → passes7 P || dual_feasible P.plan ≡ false → refused SlackOutside ≡ begun P s
  unfolding begun
  starts_outside a e = rw (a, e, begun)

  pub starts_well : passes6 P ≡ true → passes7 P || dual_feasible P.plan ≡ true → (u : Numbers) → u ≡ reckoned P s → filled u ≡ begun P s
  unfolding begun
  starts_well a b u e = rw (a, b, e, begun)

  -- as `begin` is lent it
  pub begun_part : begun P s
      ≡ begun (problem (plan_of (n_of P) 0 0 0 f0 P.plan.costs P.plan.lowers P.plan.uppers P.plan.starts P.plan.cols P.plan.coeffs P.plan.ops P.plan.rhs) P.kept) s
  unfolding begun passes6 passes7 dual_feasible reckoned start_vals start_objective start_slack start_norm column
  begun_part = refl

-- ---- for the caller
module _ (p : Plan) (m : Memory) (s : Numbers) where
  abbrev P : Problem
  P = problem_of p

  abbrev begun_from : Bool → Bool → Scratch
  begun_from b c = elim b [ true ↦ elim c [ true ↦ filled (reckoned P s) | false ↦ refused SlackOutside ] | false ↦ refused StartNotFinite ]

  abbrev solved_from : Bool → Bool → Solved
  solved_from b c = or_refuse b StartNotFinite m (or_refuse c SlackOutside m (close P m (end_of P m)))

  clash : {A : Type 0} → ◌≡◌ {A = ℕ} 0 1 → A
  clash e = absurd (omega arith)

  pub start_refused : (a : Answer) → refused a ≡ begun P s → from_six p m ≡ solved a m
  unfolding begun
  start_refused a e = go (passes6 P) (passes7 P || dual_feasible p) e
    where
      go : (b c : Bool) → refused a ≡ begun_from b c → solved_from b c ≡ solved a m
      go true true e = clash cc
      go true false e = ap (λ x. solved x m) (let z : SlackOutside ≡ a = cc in z)
      go false c e = ap (λ x. solved x m) (let z : StartNotFinite ≡ a = cc in z)

  pub start_filled : (u : Numbers) → filled u ≡ begun P s → (u ≡ reckoned P s) × (from_six p m ≡ close P m (end_of P m))
  unfolding begun
  start_filled u e = go (passes6 P) (passes7 P || dual_feasible p) e
    where
      go : (b c : Bool) → filled u ≡ begun_from b c → (u ≡ reckoned P s) × (solved_from b c ≡ close P m (end_of P m))
      go true true e = (cc, refl)
      go true false e = clash cc
      go false c e = clash cc
