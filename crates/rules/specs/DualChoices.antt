-- 02, Ask 8: what the choices of a dual step say, of its leaving row and of its entering column, apart from the loops that
-- make them. proofs/ shows that each is made exactly then. Assumes nothing.
use Rattle.std.specs.Prelude.{◌≡◌, Bool, true, false, not, ◌⊎◌, ℕ, ◌<◌, Float}
use Rattle.std.specs.Float.Ieee.{lt, le}
use Rattle.doubles.specs.Num.{◌⊕◌, ◌⊖◌, ◌⊗◌, ◌⊘◌, f0, eps, +inf, -inf, finite, size}
use Rattle.doubles.specs.Lists.{◌!◌, ◌#◌}
use Rattle.doubles.specs.Words.{FirstLargest}
use Rattle.sparse.specs.Scattered.{Sv, listed, listed_val}
use Rattle.rules.specs.Plan.{Problem, Workspace, m_of, flags_of}
use Rattle.rules.specs.Choices.{size_at}
use Rattle.rules.specs.DualRow.{row_min, row_max, outside_at, infeasibility_at, row_score_at}
use Rattle.rules.specs.DualRatio.{leaving_rises, eligible, dual_relaxed, dual_step_to, dual_pass_one, dual_candidate}
use Rattle.rules.specs.declared.NonBasicVarState.{NonBasicVarState}
use Rattle.rules.specs.declared.Entering.{Entering}
use Rattle.rules.specs.declared.LeavingVar.{LeavingVar}
use Rattle.rules.specs.declared.DualRatio.{DualRatio}
use Rattle.rules.specs.declared.DualRatio.TheVariants.{Exchange, Nothing, NotFinite}

-- ---- the leaving row

-- the basic value of row r is below its lower bound by more than EPS, or above its upper one
pub data OutsideBy (P : Problem) (w : Workspace) (r : ℕ) : Type 0 where
  below : lt (w.basic_var_vals ! r) (row_min P w r ⊖ eps) ≡ true → OutsideBy P w r
  above : lt (row_max P w r ⊕ eps) (w.basic_var_vals ! r) ≡ true → OutsideBy P w r

-- 02: "the largest squared infeasibility over dual norm, first on a tie": it passes the test, no row that passes scores
-- more, and none before it as much; it travels with its infeasibility and score, and with the bound that it broke
pub record IsLeaving (P : Problem) (w : Workspace) (l : LeavingVar) : Type 0 where
  pub wins : FirstLargest (outside_at P w) (row_score_at P w) (m_of P) l.row
  pub scores : lt -inf (row_score_at P w l.row) ≡ true
  pub infeasibility_is : l.infeasibility ≡ infeasibility_at P w l.row
  pub score_is : l.score ≡ infeasibility_at P w l.row ⊗ infeasibility_at P w l.row ⊘ w.dual_norms ! l.row
  pub lower_is : lt (w.basic_var_vals ! l.row) (row_min P w l.row) ≡ true → l.value ≡ row_min P w l.row
  pub upper_is : lt (w.basic_var_vals ! l.row) (row_min P w l.row) ≡ false → l.value ≡ row_max P w l.row

-- no row that passes the test scores above -inf
abbrev pub NoneLeaves : Problem → Workspace → Type 0
NoneLeaves P w = (r : ℕ) → r < m_of P → outside_at P w r ≡ true → lt -inf (row_score_at P w r) ≡ false

-- ---- the ratio on prices

-- "it rises where (coefficient > 0) differs from (leaving value > basic value)"
abbrev pub enters_up : Bool → Float → Bool
enters_up up a = elim (lt f0 a) [ true ↦ not up | false ↦ up ]

-- "rising needs not at_max, falling not at_min"
pub record FreeTo (rises : Bool) (f : NonBasicVarState) : Type 0 where
  pub not_upper : rises ≡ true → f.at_max ≡ false
  pub not_lower : rises ≡ false → f.at_min ≡ false

-- "Price clamped: 0.0 where at_min and price < 0.0, or at_max and price > 0.0"
pub record Clamped (f : NonBasicVarState) (price x : Float) : Type 0 where
  pub at_lower : f.at_min ≡ true → lt price f0 ≡ true → x ≡ f0
  pub at_upper : f.at_max ≡ true → lt f0 price ≡ true → x ≡ f0
  pub else_kept : (f.at_min ≡ true → lt price f0 ≡ false) → (f.at_max ≡ true → lt f0 price ≡ false) → x ≡ price ⊖ f0

-- 02: a column "has a row coefficient of size at least EPS and isn't already at the bound in the way of the move"
pub record EligibleBy (up : Bool) (f : NonBasicVarState) (a : Float) : Type 0 where
  pub of_size : le eps (size a) ≡ true
  pub free : FreeTo (enters_up up a) f

-- Ask 9, where nothing moves: "every column with a coefficient of size at least EPS and no fixed mark is eligible"
pub record EligibleUnmoved (f : NonBasicVarState) (a : Float) : Type 0 where
  pub of_size : le eps (size a) ≡ true
  pub not_fixed : f.«fixed» ≡ false

-- the passes, by what their test says of a column's flags and its row coefficient
module _ (w : Workspace) (Says : NonBasicVarState → Float → Type 0) (r : Sv) where
  abbrev pub ColumnSays : ℕ → Type 0
  ColumnSays c = Says (flags_of (w.flags # c)) (r.vals ! c)

  -- the k-th listed one
  abbrev pub Eligible : ℕ → Type 0
  Eligible k = ColumnSays (listed r k)

  -- 26: "no entering column exists for the leaving row", of the row's list and of all columns
  abbrev pub NoneEligible : Type 0
  NoneEligible = (k : ℕ) → k < r.pat.count → ¬ Eligible k

  abbrev pub NoneSays : ℕ → Type 0
  NoneSays n = (c : ℕ) → c < n → ¬ ColumnSays c

  -- "Pass one: … the smallest, from +inf"
  pub record DualPassOne (t : Float) : Type 0 where
    pub smallest : (k : ℕ) → k < r.pat.count → Eligible k → lt (dual_relaxed w r k) t ≡ false
    pub one_of : (t ≡ +inf) ⊎ ((k : ℕ) × (k < r.pat.count) × Eligible k × (t ≡ dual_relaxed w r k))

  -- "A quotient of an eligible column that isn't finite: 23"
  pub data DualUnsound : Type 0 where
    bad_quotient : (k : ℕ) → k < r.pat.count → Eligible k → finite (dual_relaxed w r k) ≡ false → DualUnsound
    bad_step : (k : ℕ) → k < r.pat.count → Eligible k → finite (dual_step_to w r k) ≡ false → DualUnsound

  pub record DualSound : Type 0 where
    pub quotients : (k : ℕ) → k < r.pat.count → Eligible k → finite (dual_relaxed w r k) ≡ true
    pub steps : (k : ℕ) → k < r.pat.count → Eligible k → finite (dual_step_to w r k) ≡ true

-- 02's words over the columns of a dual step
abbrev pub NoColumn : Workspace → Bool → Sv → ℕ → Type 0
NoColumn w up r n = NoneSays w (EligibleBy up) r n

-- "Pass two: … <= that, strictly largest coefficient size": the k-th listed column
abbrev pub EntersBy : Workspace → (NonBasicVarState → Float → Bool) → Sv → ℕ → Type 0
EntersBy w test r k = FirstLargest (dual_candidate w test r (dual_pass_one w test r)) (size_at r) r.pat.count k

module _ (w : Workspace) (l : LeavingVar) (r : Sv) where
  abbrev pub dual_diff : ℕ → Float
  dual_diff k = (w.basic_var_vals ! l.row ⊖ l.value) ⊘ listed_val r k

  abbrev pub dual_entering : ℕ → Entering
  dual_entering k = record { col = listed r k; price = w.prices ! listed r k; score = size_at r k; distance = size (dual_diff k) }

  -- what the ratio gives over the columns that a test lets in
  module _ (test : NonBasicVarState → Float → Bool) (Says : NonBasicVarState → Float → Type 0) where
    pub data DualGivesBy : DualRatio → Type 0 where
      not_finite : DualUnsound w Says r → DualGivesBy NotFinite
      nothing : NoneEligible w Says r → DualGivesBy Nothing
      exchanges : DualSound w Says r → (k : ℕ) → EntersBy w test r k
          → DualGivesBy (Exchange (dual_entering k) (w.nb_var_vals ! listed r k ⊕ dual_diff k) (dual_diff k) (listed_val r k))

  -- what it gives in a dual step
  abbrev pub DualGives : DualRatio → Type 0
  DualGives = DualGivesBy (eligible (leaving_rises w l)) (EligibleBy (leaving_rises w l))
