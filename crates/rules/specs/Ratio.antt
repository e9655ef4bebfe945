-- 01, "One step": Harris' two passes and the choice of the step. From minilp 0.2.2, src/solver.rs, choose_pivot, Apache-2.0, changed. Assumes nothing.
use Rattle.std.specs.Prelude.{Bool, true, false, not, ◌&&◌, ◌||◌, ℕ, ltb, Float}
use Rattle.std.specs.Float.Ieee.{lt, le}
use Rattle.doubles.specs.Num.{◌⊕◌, ◌⊖◌, ◌⊘◌, f0, eps, -inf, finite, infinite, size}
use Rattle.doubles.specs.Loop.{run, all}
use Rattle.doubles.specs.Lists.{◌!◌, ◌#◌}
use Rattle.sparse.specs.Scattered.{Sv, listed, listed_val}
use Rattle.rules.specs.Plan.{Problem, Workspace, var_min, var_max}
use Rattle.rules.specs.Choose.{other_val}
use Rattle.rules.specs.declared.Entering.{Entering}
use Rattle.rules.specs.declared.PivotInfo.{PivotInfo}
use Rattle.rules.specs.declared.PivotInfo.TheVariants.{Flip, Exchange}
use Rattle.rules.specs.declared.Ratio.{Ratio}
use Rattle.rules.specs.declared.Ratio.TheVariants.{Pivot, Unbounded, NotFinite}

-- the entering variable rises; row r, with coefficient a, moves towards its upper bound
abbrev pub rises : Entering → Bool
rises e = lt e.price f0

unfoldable pub towards_max : Bool → Float → Bool
towards_max up a = (up && lt a f0) || (not up && lt f0 a)

-- the bound ahead of row r, and the room left before it
unfoldable pub ahead : Problem → Workspace → Bool → ℕ → Float → Float
ahead P w up r a = elim (towards_max up a) [ true ↦ var_max P (w.basic_vars # r) | false ↦ var_min P (w.basic_vars # r) ]

unfoldable pub limit_by : Bool → Float → Float → Float
limit_by true bound x = elim (lt x bound) [ true ↦ bound ⊖ x | false ↦ f0 ]
limit_by false bound x = elim (lt bound x) [ true ↦ x ⊖ bound | false ↦ f0 ]

unfoldable pub limit : Problem → Workspace → Bool → ℕ → Float → Float
limit P w up r a = limit_by (towards_max up a) (ahead P w up r a) (w.basic_var_vals ! r)

-- "coefficients under EPS in size are skipped"; "a row with an infinite bound ahead is no candidate"
unfoldable pub examined : Problem → Workspace → Bool → ℕ → Float → Bool
examined P w up r a = not (lt (size a) eps) && not (infinite (ahead P w up r a))

-- "Pass one uses (limit + EPS) / size", pass two limit / size
unfoldable pub relaxed : Problem → Workspace → Bool → ℕ → Float → Float
relaxed P w up r a = (limit P w up r a ⊕ eps) ⊘ size a

unfoldable pub step_to : Problem → Workspace → Bool → ℕ → Float → Float
step_to P w up r a = limit P w up r a ⊘ size a

module _ (P : Problem) (w : Workspace) (up : Bool) (c : Sv) where
  -- "A finite bound whose limit or quotient isn't finite gives 23"
  abbrev pub sound_at : ℕ → Bool
  sound_at k =
      let r = listed c k in
      let a = listed_val c k in
      not (examined P w up r a) || (finite (limit P w up r a) && finite (relaxed P w up r a) && finite (step_to P w up r a))

  unfoldable pub sound_ratios : Bool
  sound_ratios = all c.pat.count sound_at

  -- pass one: "against the distance, strictly smaller"
  abbrev pub pass_one_turn : ℕ → Float → Float
  pass_one_turn k t =
      let r = listed c k in
      let a = listed_val c k in
      elim (examined P w up r a && lt (relaxed P w up r a) t) [ true ↦ relaxed P w up r a | false ↦ t ]

  unfoldable pub pass_one : Float → Float
  pass_one distance = run pass_one_turn c.pat.count distance

  -- pass two: "takes step <= max_step, strictly largest size"
  unfoldable pub candidate : Float → ℕ → Bool
  candidate max_step k = examined P w up (listed c k) (listed_val c k) && le (step_to P w up (listed c k) (listed_val c k)) max_step

-- the leaving row so far, as a place of the column's list, and its coefficient's size; `at` is the list's length where there is none
pub record Leaving : Type 0 where
  pub at : ℕ
  pub size : Float

abbrev pub leaving_of : ℕ → Float → Leaving
leaving_of k x = record { at = k; size = x }

module _ (P : Problem) (w : Workspace) (up : Bool) (c : Sv) where
  unfoldable pub pass_two_turn : Float → ℕ → Leaving → Leaving
  pass_two_turn max_step k b =
      elim (candidate P w up c max_step k && lt b.size (size (listed_val c k))) [ true ↦ leaving_of k (size (listed_val c k)) | false ↦ b ]

  unfoldable pub pass_two : Float → Leaving
  pass_two max_step = run (pass_two_turn max_step) c.pat.count (leaving_of c.pat.count -inf)

-- "A step is a flip, with its new value and difference, or an exchange, which adds row, pivot and leaving value"
unfoldable pub flip_of : Problem → Workspace → Entering → PivotInfo
flip_of P w e = let other = other_val P w e.col in Flip other (other ⊖ w.nb_var_vals ! e.col)

unfoldable pub exchange_of : Problem → Workspace → Entering → ℕ → Float → PivotInfo
exchange_of P w e r pivot =
    let leaving = ahead P w (rises e) r pivot in
    let diff = (w.basic_var_vals ! r ⊖ leaving) ⊘ pivot in
    Exchange (w.nb_var_vals ! e.col ⊕ diff) diff r pivot leaving

-- "Unbounded is given exactly when no row is a candidate and the entering column's other bound is infinite"
unfoldable pub pivot_of : Problem → Workspace → Entering → Sv → Leaving → Ratio
pivot_of P w e c b =
    elim (ltb b.at c.pat.count) [
      | true ↦ Pivot (exchange_of P w e (listed c b.at) (listed_val c b.at))
      | false ↦ elim (infinite (other_val P w e.col)) [ true ↦ Unbounded | false ↦ Pivot (flip_of P w e) ]
    ]

-- "as does a finite other bound whose distance isn't finite, both in the ratio"
unfoldable pub sound_distance : Problem → Workspace → Entering → Bool
sound_distance P w e = infinite (other_val P w e.col) || finite e.distance

unfoldable pub ratio : Problem → Workspace → Entering → Sv → Ratio
ratio P w e c =
    elim (sound_distance P w e && sound_ratios P w (rises e) c) [
      | true ↦ pivot_of P w e c (pass_two P w (rises e) c (pass_one P w (rises e) c e.distance))
      | false ↦ NotFinite
    ]
