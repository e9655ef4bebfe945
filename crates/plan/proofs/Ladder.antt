-- 01: "The lowest number that applies is given": one law for each answer of `first_refusal`, and what the answer is to the whole solve. Assumes nothing.
use mathlib.Core.Path.{◌≡◌, refl, sym, ap, ◌∙◌}
use mathlib.Core.Bool.{Bool, true, false, ◌&&◌, ◌||◌}
use Prim.Native.Nat.{ℕ, ◌+◌, ◌-◌, ◌≤◌}
use native.Mathlib.Omega.{arith}
use lib.Dec.{eqb}
use Rattle.rules.specs.Plan.{Plan, Memory, problem_of}
use Rattle.rules.specs.Refusals.{sizes_fit, plan_long, memory_long, starts_rise, passes1, passes2, first_bad_row, first_bad_in, first_crossed, first_false}
use Rattle.rules.specs.Start.{passes6, passes7, dual_feasible}
use Rattle.rules.specs.Solve.{Solved, solved, or_refuse, close, end_of, solve_plan}
use Rattle.rules.specs.declared.Answer.{Answer}
use Rattle.rules.specs.declared.Answer.TheVariants.{BadSize, BadNumber, BadEntry, CrossedBounds, FalseEmptyRow, StartNotFinite, SlackOutside}
use Rattle.rules.proofs.Lengths.{arrays, rising, ends}
use Rattle.plan.specs.declared.Bad.TheVariants.{Entry, Nothing}
use Rattle.std.specs.Prelude.{Option, Some, None}
use Rattle.plan.specs.Lent.{Rows}
use Rattle.plan.specs.Refused.{bad_entry, passing, refusal_of}

-- ---- what the tests before a call give
module _ (p : Plan) (long : plan_long p ≡ true) where
  -- every row is a part of n cells, where there are as many as entries
  pub rows_in : starts_rise p ≡ true → (n : ℕ) → p.entries ≤ n → Rows p.rows p.starts n
  rows_in e n h =
      let u = rising p e in
      record {
        row = λ i l. record {
          has = omega (arith, (arrays p long).starts_long);
          rises = u.rises i l;
          ends = omega (arith, ends p u (p.rows - (i + 1)) (i + 1) (omega arith));
        };
      }

-- ---- each answer
falls : (b : Bool) (a : Answer) (r : Option Answer) → b ≡ false → Some a ≡ passing b a r
falls b a r e = sym (ap (λ x. passing x a r) e)

goes : (b : Bool) (a : Answer) (r : Option Answer) → b ≡ true → r ≡ passing b a r
goes b a r e = sym (ap (λ x. passing x a r) e)

module _ (p : Plan) where
  -- what is left of the ladder from 5, 4, 3 and 2 on
  abbrev from5 : Option Answer
  from5 = passing (eqb (first_false p) p.rows) (FalseEmptyRow (first_false p)) None

  abbrev from4 : Option Answer
  from4 = passing (eqb (first_crossed p) p.columns) (CrossedBounds (first_crossed p)) from5

  abbrev from3 : Option Answer
  from3 = passing (eqb (first_bad_row p) p.rows) (BadEntry (first_bad_row p) (first_bad_in p (first_bad_row p))) from4

  abbrev from2 : Option Answer
  from2 = passing (passes2 p) BadNumber from3

  pub says_1 : starts_rise p ≡ false → Some BadSize ≡ refusal_of p
  unfolding refusal_of
  says_1 e = falls _ BadSize from2 e

  module _ (one : starts_rise p ≡ true) where
    at_2 : from2 ≡ refusal_of p
    unfolding refusal_of
    at_2 = goes _ BadSize from2 one

    pub says_2 : passes2 p ≡ false → Some BadNumber ≡ refusal_of p
    says_2 e = falls _ BadNumber from3 e ∙ at_2

    module _ (two : passes2 p ≡ true) where
      at_3 : from3 ≡ refusal_of p
      at_3 = goes _ BadNumber from3 two ∙ at_2

      pub says_3 : (i k : ℕ) → Entry i k ≡ bad_entry p → Some (BadEntry i k) ≡ refusal_of p
      unfolding bad_entry
      says_3 i k e = go (eqb (first_bad_row p) p.rows) refl e ∙ at_3
        where
          go : (b : Bool) → eqb (first_bad_row p) p.rows ≡ b → Entry i k ≡ elim b [ true ↦ Nothing | false ↦ Entry (first_bad_row p) (first_bad_in p (first_bad_row p)) ] → Some (BadEntry i k) ≡ from3
          go true q h = absurd (let z : ◌≡◌ {A = ℕ} 0 1 = cc in omega arith)
          go false q h =
              let row : i ≡ first_bad_row p = cc in
              let place : k ≡ first_bad_in p (first_bad_row p) = cc in
              ap (λ j. Some (BadEntry j k)) row ∙ ap (λ j. Some (BadEntry (first_bad_row p) j)) place ∙ falls _ (BadEntry (first_bad_row p) (first_bad_in p (first_bad_row p))) from4 q

      module _ (three : Nothing ≡ bad_entry p) where
        at_4 : from4 ≡ refusal_of p
        unfolding bad_entry
        at_4 = go (eqb (first_bad_row p) p.rows) refl three ∙ at_3
          where
            go : (b : Bool) → eqb (first_bad_row p) p.rows ≡ b → Nothing ≡ elim b [ true ↦ Nothing | false ↦ Entry (first_bad_row p) (first_bad_in p (first_bad_row p)) ] → from4 ≡ from3
            go true q h = goes _ (BadEntry (first_bad_row p) (first_bad_in p (first_bad_row p))) from4 q
            go false q h = absurd (let z : ◌≡◌ {A = ℕ} 0 1 = cc in omega arith)

        pub says_4 : eqb (first_crossed p) p.columns ≡ false → Some (CrossedBounds (first_crossed p)) ≡ refusal_of p
        says_4 e = falls _ (CrossedBounds (first_crossed p)) from5 e ∙ at_4

        module _ (four : eqb (first_crossed p) p.columns ≡ true) where
          at_5 : from5 ≡ refusal_of p
          at_5 = goes _ (CrossedBounds (first_crossed p)) from5 four ∙ at_4

          pub says_5 : eqb (first_false p) p.rows ≡ false → Some (FalseEmptyRow (first_false p)) ≡ refusal_of p
          says_5 e = falls _ (FalseEmptyRow (first_false p)) None e ∙ at_5

          pub says_nothing : eqb (first_false p) p.rows ≡ true → None ≡ refusal_of p
          says_nothing e = goes _ (FalseEmptyRow (first_false p)) None e ∙ at_5

-- ---- the whole solve by the answer
module _ (p : Plan) (m : Memory) where
  -- what follows 5
  abbrev pub from_six : Solved
  from_six = let P = problem_of p in or_refuse (passes6 P) StartNotFinite m (or_refuse (passes7 P || dual_feasible p) SlackOutside m (close P m (end_of P m)))

  abbrev pub solved_by : Option Answer → Solved
  solved_by (Some a) = solved a m
  solved_by None = from_six

  abbrev after_one : Solved
  after_one =
      or_refuse (passes2 p) BadNumber m
      (or_refuse (eqb (first_bad_row p) p.rows) (BadEntry (first_bad_row p) (first_bad_in p (first_bad_row p))) m
      (or_refuse (eqb (first_crossed p) p.columns) (CrossedBounds (first_crossed p)) m
      (or_refuse (eqb (first_false p) p.rows) (FalseEmptyRow (first_false p)) m from_six)))

  rung : (b : Bool) (a : Answer) (s : Solved) (r : Option Answer) → s ≡ solved_by r → or_refuse b a m s ≡ solved_by (passing b a r)
  rung true a s r e = e
  rung false a s r e = refl

  pub too_short : sizes_fit p && plan_long p && memory_long p m ≡ false → solve_plan p m ≡ solved BadSize m
  unfolding solve_plan passes1
  too_short e = ap (λ b. or_refuse (b && starts_rise p) BadSize m after_one) e

  pub by_refusal : sizes_fit p && plan_long p && memory_long p m ≡ true → solve_plan p m ≡ solved_by (refusal_of p)
  unfolding solve_plan passes1 refusal_of
  by_refusal e =
      ap (λ b. or_refuse (b && starts_rise p) BadSize m after_one) e
      ∙ rung (starts_rise p) BadSize _ (from2 p)
      (rung (passes2 p) BadNumber _ (from3 p)
      (rung (eqb (first_bad_row p) p.rows) (BadEntry (first_bad_row p) (first_bad_in p (first_bad_row p))) _ (from4 p)
      (rung (eqb (first_crossed p) p.columns) (CrossedBounds (first_crossed p)) _ (from5 p)
      (rung (eqb (first_false p) p.rows) (FalseEmptyRow (first_false p)) from_six None refl))))
