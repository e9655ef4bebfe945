-- Each way through a solve from any start ends where the definition does. No contract cites this file. Assumes nothing.
use mathlib.Core.Path.{◌≡◌, refl, sym, ap, ◌∙◌}
use mathlib.Core.Bool.{true, false}
use mathlib.Core.List.{List, [], ◌∷◌}
use Prim.Native.Nat.{ℕ}
use native.Mathlib.Omega.{arith}
use lib.Dec.{eqb}
use lib.Ieee.{Float}
use types.Run.{OneOf, miss}
use borrow.Author.Tests.{eq-eqb, ne_eqb}
use Rattle.rules.specs.Plan.{Plan, Memory}
use Rattle.rules.specs.Answers.{as_row, number_of}
use Rattle.rules.specs.Solve.{Solved, solve_plan}
use Rattle.rules.specs.declared.Answer.{Answer}
use Rattle.rules.specs.declared.Answer.TheVariants.{Optimal, BadSize, BadNumber, BadEntry, CrossedBounds, FalseEmptyRow, StartNotFinite, SlackOutside, Unbounded, Spent, NotFinite, Singular, Infeasible, ValueRejected, RowRejected}
use Rattle.state.specs.Memory.{memory_in, Past, past_of, Handed, handed, answered}
use Rattle.fix_rules.specs.declared.FixAnswer.{FixAnswer}
use Rattle.fix_ends.specs.Ends.{HandedCall, handed_call, called_by}
use Rattle.reprice_rules.specs.declared.AnyAnswer.TheVariants.{Direct, Halted, Repriced}
use Rattle.reprice_rules.specs.Calls.{reprice_plan}
use Rattle.reprice_rules.specs.Any.{any_called, costless, then_reprice, any_plan}
use Rattle.any.specs.Handed.{HandedAny, handed_any, any_by}

-- 0 is the number of Optimal alone
pub only_optimal : (a : Answer) → number_of a ≡ 0 → let t = as_row a in a ≡ Optimal t.objective t.steps t.excess
unfolding as_row
only_optimal (Optimal o k x) q = refl
only_optimal BadSize q = absurd (omega arith)
only_optimal BadNumber q = absurd (omega arith)
only_optimal (BadEntry r p) q = absurd (omega arith)
only_optimal (CrossedBounds c) q = absurd (omega arith)
only_optimal (FalseEmptyRow r) q = absurd (omega arith)
only_optimal StartNotFinite q = absurd (omega arith)
only_optimal SlackOutside q = absurd (omega arith)
only_optimal (Unbounded o k) q = absurd (omega arith)
only_optimal (Spent o k) q = absurd (omega arith)
only_optimal (NotFinite o k) q = absurd (omega arith)
only_optimal (Singular o k) q = absurd (omega arith)
only_optimal (Infeasible o k r) q = absurd (omega arith)
only_optimal (ValueRejected o k v x) q = absurd (omega arith)
only_optimal (RowRejected o k r x) q = absurd (omega arith)

-- Optimal is the first of the answers, and none of those behind it
abbrev behind_first : List ℕ
behind_first = 1 ∷ 2 ∷ 3 ∷ 4 ∷ 5 ∷ 6 ∷ 7 ∷ 8 ∷ 9 ∷ 10 ∷ 11 ∷ 12 ∷ 13 ∷ 14 ∷ []

pub not_first : OneOf behind_first 0 → ⊥
not_first = miss behind_first 0 tt

module _ (p : Plan) where
  -- by what the run with costs 0 left
  by_costless : Handed → HandedAny
  by_costless h = handed_any (then_reprice p h.solved) h.past

  -- by what the call with the plan's own costs left
  by_reprice : ℕ → HandedCall → HandedAny
  by_reprice k h = handed_any (any_called (Repriced k h.call.answer) h.call.memory) h.past

  -- by what the first run left
  by_first : Handed → HandedAny
  by_first h =
      let r = h.solved in
      handed_any
      (elim (eqb (number_of r.answer) 7) [
        | true ↦ then_reprice p (solve_plan (costless p) r.memory)
        | false ↦ any_called (Direct r.answer) r.memory
      ])
      h.past

  module _ (a : Answer) (v : List Float) (N : List ℕ) (D : List Float) (F : List ℕ) (G : List Float) where
    abbrev left : Handed
    left = answered a v N D F G

    -- ---- behind 7
    halts_by : ¬ (number_of a ≡ 0) → any_by (Halted a) v N D F G ≡ by_costless left
    unfolding by_costless then_reprice
    halts_by h = rw (ne_eqb (number_of a) 0 h, then_reprice) refl

    prices_by : (o : Float) (k : ℕ) (x : Float)
        → by_reprice k (handed_call (reprice_plan p (memory_in v N D F G)) (past_of N D))
        ≡ by_costless (answered (Optimal o k x) v N D F G)
    unfolding by_reprice by_costless then_reprice as_row
    prices_by o k x = refl

    module _ {r : Solved} {past : Past} (e : left ≡ handed r past) where
      pub halts : ¬ (number_of a ≡ 0) → any_by (Halted a) v N D F G ≡ handed_any (then_reprice p r) past
      unfolding by_costless
      halts h = halts_by h ∙ ap by_costless e

      -- w, M, E, H and J are what the call left
      pub prices : {o : Float} {k : ℕ} {x : Float} → a ≡ Optimal o k x
          → (b : FixAnswer) (w : List Float) (M : List ℕ) (E : List Float) (H : List ℕ) (J : List Float)
          → called_by b w M E H J ≡ handed_call (reprice_plan p (memory_in v N D F G)) (past_of N D)
          → any_by (Repriced k b) w M E H J ≡ handed_any (then_reprice p r) past
      unfolding by_reprice by_costless
      prices {o} {k} {x} q b w M E H J f =
          ap (by_reprice k) f
          ∙ prices_by o k x
          ∙ ap (λ (t : Answer). by_costless (answered t v N D F G)) (sym q)
          ∙ ap by_costless e

    -- ---- the first run
    module _ (m : Memory) {past : Past} (e : left ≡ handed (solve_plan p m) past) where
      first : by_first left ≡ handed_any (any_plan p m) past
      unfolding by_first any_plan
      first = ap by_first e

      pub direct : ¬ (number_of a ≡ 7) → any_by (Direct a) v N D F G ≡ handed_any (any_plan p m) past
      unfolding by_first
      direct h = rw (ne_eqb (number_of a) 7 h) at first

      pub behind : number_of a ≡ 7 → {z : HandedAny}
          → z ≡ handed_any (then_reprice p (solve_plan (costless p) (memory_in v N D F G))) (past_of N D)
          → z ≡ handed_any (any_plan p m) past
      unfolding by_first
      behind h f = f ∙ rw (eq-eqb (number_of a) 7 h) at first
