-- 02, Ask 8: "the entering column is chosen by a two-pass rule like the primal one, on prices". From minilp 0.2.2,
-- src/solver.rs, choose_entering_col_dual, Apache-2.0, changed. Assumes nothing.
use Rattle.std.specs.Prelude.{Bool, true, false, not, ◌&&◌, ◌||◌, ℕ, ltb, Float}
use Rattle.std.specs.Float.Ieee.{lt, le, neg}
use Rattle.doubles.specs.Num.{◌⊕◌, ◌⊖◌, ◌⊘◌, f0, eps, +inf, -inf, finite, size}
use Rattle.doubles.specs.Loop.{run, all}
use Rattle.doubles.specs.Lists.{◌!◌, ◌#◌}
use Rattle.sparse.specs.Scattered.{Sv, listed, listed_val}
use Rattle.rules.specs.Plan.{Workspace, flags_of}
use Rattle.rules.specs.Ratio.{Leaving, leaving_of}
use Rattle.rules.specs.declared.NonBasicVarState.{NonBasicVarState}
use Rattle.rules.specs.declared.Entering.{Entering}
use Rattle.rules.specs.declared.LeavingVar.{LeavingVar}
use Rattle.rules.specs.declared.DualRatio.{DualRatio}
use Rattle.rules.specs.declared.DualRatio.TheVariants.{Exchange, Nothing, NotFinite}

-- 02: "the move that brings the leaving value towards the one it is to take": the leaving variable rises
unfoldable pub leaving_rises : Workspace → LeavingVar → Bool
leaving_rises w l = lt (w.basic_var_vals ! l.row) l.value

-- no bound is in the way of a column that rises, or falls
abbrev pub may_move : Bool → NonBasicVarState → Bool
may_move true f = not f.at_max
may_move false f = not f.at_min

-- docs/RULES-02.md: "A column is eligible where its coefficient is at least EPS or at most -EPS and it isn't at the bound in
-- the way": it rises where its coefficient's sign and the leaving variable's move differ
unfoldable pub eligible : Bool → NonBasicVarState → Float → Bool
eligible up f a = (le eps a && may_move (not up) f) || (le a (neg eps) && may_move up f)

-- docs/RULES-02.md, Ask 9, of a basic column that is fixed where it stands: "there is no move, so no bound is in the way: every
-- column with a coefficient of size at least EPS and no fixed mark is eligible"
unfoldable pub eligible_still : NonBasicVarState → Float → Bool
eligible_still f a = le eps (size a) && not f.«fixed»

-- the test of a step whose leaving variable stands still, rises, or falls
abbrev pub test_by : Bool → Bool → NonBasicVarState → Float → Bool
test_by still up = elim still [ true ↦ eligible_still | false ↦ eligible up ]

-- "Price clamped: 0.0 where at_min and price < 0.0, or at_max and price > 0.0". Else it is the difference from 0.0: a
-- double whatever the list of prices holds, like the primal limit, and the price itself, -0.0 too, where that is a
-- double (`rules!DualColumn` `kept_price`)
unfoldable pub clamped : NonBasicVarState → Float → Float
clamped f d = elim ((f.at_min && lt d f0) || (f.at_max && lt f0 d)) [ true ↦ f0 | false ↦ d ⊖ f0 ]

module _ (w : Workspace) (r : Sv) where
  -- the clamped price of the k-th listed column, by its size
  abbrev pub price_at : ℕ → Float
  price_at k = size (clamped (flags_of (w.flags # listed r k)) (w.prices ! listed r k))

  -- "Pass one: (size of clamped price + EPS) / size of coefficient", pass two without EPS
  abbrev pub dual_relaxed : ℕ → Float
  dual_relaxed k = (price_at k ⊕ eps) ⊘ size (listed_val r k)

  abbrev pub dual_step_to : ℕ → Float
  dual_step_to k = price_at k ⊘ size (listed_val r k)

-- the two passes over the columns that a test of their flags and their row coefficient lets in
module _ (w : Workspace) (test : NonBasicVarState → Float → Bool) (r : Sv) where
  abbrev pub eligible_at : ℕ → Bool
  eligible_at k = test (flags_of (w.flags # listed r k)) (listed_val r k)

  -- "A quotient of an eligible column that isn't finite: 23"
  abbrev pub dual_sound_at : ℕ → Bool
  dual_sound_at k = not (eligible_at k) || (finite (dual_relaxed w r k) && finite (dual_step_to w r k))

  unfoldable pub dual_sound : Bool
  dual_sound = all r.pat.count dual_sound_at

  -- "the smallest, from +inf"
  abbrev pub dual_pass_one_turn : ℕ → Float → Float
  dual_pass_one_turn k t = elim (eligible_at k && lt (dual_relaxed w r k) t) [ true ↦ dual_relaxed w r k | false ↦ t ]

  unfoldable pub dual_pass_one : Float
  dual_pass_one = run dual_pass_one_turn r.pat.count +inf

  -- "Pass two: size of clamped price / size of coefficient <= that"
  unfoldable pub dual_candidate : Float → ℕ → Bool
  dual_candidate max_step k = eligible_at k && le (dual_step_to w r k) max_step

  -- "strictly largest coefficient size": the entering column so far, as a place of the row's list
  unfoldable pub dual_pass_two_turn : Float → ℕ → Leaving → Leaving
  dual_pass_two_turn max_step k b =
      elim (dual_candidate max_step k && lt b.size (size (listed_val r k))) [ true ↦ leaving_of k (size (listed_val r k)) | false ↦ b ]

  unfoldable pub dual_pass_two : Float → Leaving
  dual_pass_two max_step = run (dual_pass_two_turn max_step) r.pat.count (leaving_of r.pat.count -inf)

-- "pivot is the ROW's coefficient; difference (basic value - leaving value) / pivot; new value = the column's value +
-- difference". The column travels with its price, the size that won and the size of its move
unfoldable pub dual_exchange_of : Workspace → LeavingVar → ℕ → Float → DualRatio
dual_exchange_of w l c pivot =
    let diff = (w.basic_var_vals ! l.row ⊖ l.value) ⊘ pivot in
    Exchange (record { col = c; price = w.prices ! c; score = size pivot; distance = size diff }) (w.nb_var_vals ! c ⊕ diff) diff pivot

-- "No eligible column: 26"
unfoldable pub dual_ratio_by : (NonBasicVarState → Float → Bool) → Workspace → LeavingVar → Sv → DualRatio
dual_ratio_by test w l r =
    elim (dual_sound w test r) [
      | false ↦ NotFinite
      | true ↦
          let b = dual_pass_two w test r (dual_pass_one w test r) in
          elim (ltb b.at r.pat.count) [
            | true ↦ dual_exchange_of w l (listed r b.at) (listed_val r b.at)
            | false ↦ Nothing
          ]
    ]

-- the ratio of a dual step
abbrev pub dual_ratio : Workspace → LeavingVar → Sv → DualRatio
dual_ratio w l r = dual_ratio_by (eligible (leaving_rises w l)) w l r
