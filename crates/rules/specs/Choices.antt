-- 01, "One step": what the choices of the entering column and of the step say, apart from the loops that make them.
-- proofs/ shows that each is made exactly then. Assumes nothing.
use Rattle.std.specs.Prelude.{◌≡◌, Bool, true, false, ◌⊎◌, ℕ, ◌<◌, Float}
use Rattle.std.specs.Float.Ieee.{lt, le, neg}
use Rattle.doubles.specs.Num.{eps, -inf, finite, infinite, size, ◌⊕◌, ◌⊖◌, ◌⊗◌, ◌⊘◌}
use Rattle.doubles.specs.Lists.{◌!◌}
use Rattle.doubles.specs.Words.{FirstLargest}
use Rattle.sparse.specs.Scattered.{Sv, listed, listed_val}
use Rattle.rules.specs.Plan.{Problem, Workspace, n_of}
use Rattle.rules.specs.Choose.{passes_filter, score_at, other_val}
use Rattle.rules.specs.Ratio.{rises, ahead, limit, pass_one, candidate}
use Rattle.rules.specs.declared.NonBasicVarState.{NonBasicVarState}
use Rattle.rules.specs.declared.Entering.{Entering}
use Rattle.rules.specs.declared.PivotInfo.TheVariants.{Flip, Exchange}
use Rattle.rules.specs.declared.Ratio.{Ratio}
use Rattle.rules.specs.declared.Ratio.TheVariants.{Pivot, Unbounded, NotFinite}

-- ---- the entering column

-- "Filter as shown": at its lower bound a column enters only with a price of at most -EPS, at its upper bound only with
-- one of at least EPS. 02: "a column at neither bound enters only if its price's size is at least EPS"
pub record MayEnter (f : NonBasicVarState) (price : Float) : Type 0 where
  pub lower : f.at_min ≡ true → le price (neg eps) ≡ true
  pub upper : f.at_max ≡ true → le eps price ≡ true
  pub neither : f.at_min ≡ false → f.at_max ≡ false → le eps (size price) ≡ true

-- "The entering column travels with its price, score and distance"; "score is price * price / norm; strictly largest
-- wins, first on a tie": it passes the filter, no column that passes has a larger score, and none before it an equal
-- one
pub record IsEntering (P : Problem) (w : Workspace) (e : Entering) : Type 0 where
  pub wins : FirstLargest (passes_filter w) (score_at w) (n_of P) e.col
  pub scores : lt -inf (score_at w e.col) ≡ true
  pub price_is : e.price ≡ w.prices ! e.col
  pub score_is : e.score ≡ w.prices ! e.col ⊗ w.prices ! e.col ⊘ w.norms ! e.col
  pub distance_is : e.distance ≡ size (other_val P w e.col ⊖ w.nb_var_vals ! e.col)

-- no column that passes the filter scores above -inf
abbrev pub NoneEnters : Problem → Workspace → Type 0
NoneEnters P w = (c : ℕ) → c < n_of P → passes_filter w c ≡ true → lt -inf (score_at w c) ≡ false

-- ---- the ratio's two passes

-- the k-th listed row: the size of its coefficient, the bound ahead, and the room left before it
abbrev pub size_at : Sv → ℕ → Float
size_at c k = size (listed_val c k)

abbrev pub ahead_at : Problem → Workspace → Bool → Sv → ℕ → Float
ahead_at P w up c k = ahead P w up (listed c k) (listed_val c k)

abbrev pub limit_at : Problem → Workspace → Bool → Sv → ℕ → Float
limit_at P w up c k = limit P w up (listed c k) (listed_val c k)

-- "Pass one uses (limit + EPS) / size", pass two limit / size
abbrev pub quotient_one : Problem → Workspace → Bool → Sv → ℕ → Float
quotient_one P w up c k = (limit_at P w up c k ⊕ eps) ⊘ size_at c k

abbrev pub quotient_two : Problem → Workspace → Bool → Sv → ℕ → Float
quotient_two P w up c k = limit_at P w up c k ⊘ size_at c k

-- "coefficients under EPS in size are skipped"; "a row with an infinite bound ahead is no candidate"
pub record Examined (P : Problem) (w : Workspace) (up : Bool) (c : Sv) (k : ℕ) : Type 0 where
  pub not_small : lt (size_at c k) eps ≡ false
  pub bounded : infinite (ahead_at P w up c k) ≡ false

-- "Pass one uses (limit + EPS) / size against the distance, strictly smaller": t is the smallest of the distance and
-- the examined rows' quotients
pub record PassOne (P : Problem) (w : Workspace) (up : Bool) (c : Sv) (distance t : Float) : Type 0 where
  pub within : lt distance t ≡ false
  pub smallest : (k : ℕ) → k < c.pat.count → Examined P w up c k → lt (quotient_one P w up c k) t ≡ false
  pub one_of : (t ≡ distance) ⊎ ((k : ℕ) × (k < c.pat.count) × Examined P w up c k × (t ≡ quotient_one P w up c k))

-- "Pass two takes step <= max_step"
pub record Candidate (P : Problem) (w : Workspace) (up : Bool) (c : Sv) (max_step : Float) (k : ℕ) : Type 0 where
  pub looked_at : Examined P w up c k
  pub near : le (quotient_two P w up c k) max_step ≡ true

abbrev pub NoCandidate : Problem → Workspace → Bool → Sv → Float → Type 0
NoCandidate P w up c max_step = (k : ℕ) → k < c.pat.count → ¬ Candidate P w up c max_step k

-- "strictly largest size": the k-th listed row is a candidate, no candidate is larger in size, and none listed before
-- it is as large
abbrev pub Leaves : Problem → Workspace → Bool → Sv → Float → ℕ → Type 0
Leaves P w up c max_step k = FirstLargest (candidate P w up c max_step) (size_at c) c.pat.count k

-- the row is listed, with a coefficient that isn't under EPS in size: so is a row that leaves
pub record Listed (c : Sv) (row : ℕ) : Type 0 where
  pub place : ℕ
  pub listed_place : place < c.pat.count
  pub row_there : row ≡ listed c place
  pub not_small : lt (size_at c place) eps ≡ false

-- ---- what the ratio gives
module _ (P : Problem) (w : Workspace) (e : Entering) (c : Sv) where
  -- "A finite bound whose limit or quotient isn't finite gives 23, as does a finite other bound whose distance isn't
  -- finite, both in the ratio"
  pub data RatioUnsound : Type 0 where
    bad_distance : infinite (other_val P w e.col) ≡ false → finite e.distance ≡ false → RatioUnsound
    bad_limit : (k : ℕ) → k < c.pat.count → Examined P w (rises e) c k
        → finite (limit_at P w (rises e) c k) ≡ false → RatioUnsound
    bad_quotient : (k : ℕ) → k < c.pat.count → Examined P w (rises e) c k
        → finite (quotient_one P w (rises e) c k) ≡ false → RatioUnsound
    bad_step : (k : ℕ) → k < c.pat.count → Examined P w (rises e) c k
        → finite (quotient_two P w (rises e) c k) ≡ false → RatioUnsound

  pub record RatioSound : Type 0 where
    pub distances : infinite (other_val P w e.col) ≡ false → finite e.distance ≡ true
    pub limits : (k : ℕ) → k < c.pat.count → Examined P w (rises e) c k
        → finite (limit_at P w (rises e) c k) ≡ true
    pub quotients : (k : ℕ) → k < c.pat.count → Examined P w (rises e) c k
        → finite (quotient_one P w (rises e) c k) ≡ true
    pub steps : (k : ℕ) → k < c.pat.count → Examined P w (rises e) c k
        → finite (quotient_two P w (rises e) c k) ≡ true

  -- pass one's step
  abbrev pub max_step : Float
  max_step = pass_one P w (rises e) c e.distance

  -- where the k-th listed row leaves, its variable moves to the bound ahead: the entering column's difference and value
  abbrev pub diff_by : ℕ → Float
  diff_by k = (w.basic_var_vals ! listed c k ⊖ ahead_at P w (rises e) c k) ⊘ listed_val c k

  abbrev pub value_by : ℕ → Float
  value_by k = w.nb_var_vals ! e.col ⊕ diff_by k

  -- "Unbounded is given exactly when no row is a candidate and the entering column's other bound is infinite"; no 23
  -- came first
  abbrev pub NoBound : Type 0
  NoBound = RatioSound × NoCandidate P w (rises e) c max_step × (infinite (other_val P w e.col) ≡ true)

  -- "A step is a flip, with its new value and difference, or an exchange, which adds row, pivot and leaving value"
  pub data RatioGives : Ratio → Type 0 where
    not_finite : RatioUnsound → RatioGives NotFinite
    unbounded : NoBound → RatioGives Unbounded
    flips : RatioSound → NoCandidate P w (rises e) c max_step → infinite (other_val P w e.col) ≡ false
        → RatioGives (Pivot (Flip (other_val P w e.col) (other_val P w e.col ⊖ w.nb_var_vals ! e.col)))
    exchanges : RatioSound → (k : ℕ) → Leaves P w (rises e) c max_step k
        → RatioGives (Pivot (Exchange (value_by k) (diff_by k) (listed c k) (listed_val c k) (ahead_at P w (rises e) c k)))
