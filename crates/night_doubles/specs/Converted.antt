-- The whole conversion: what it asks, and the plan that it leaves. Assumes nothing.
use Rattle.std.specs.Prelude.{◌≡◌, ℕ, ◌+◌, ◌*◌, ◌≤◌, List, [], length, replicate, Float}
use Rattle.doubles.specs.Num.{f0}
use Rattle.doubles.specs.Limits.{max_rows, max_columns, max_entries}
use Rattle.sheet_rules.specs.Sheet.{Plan}
use Rattle.rules.specs.Plan as Rules
use Rattle.rules.specs.Parts.{plan_of}
use Rattle.night_rules.specs.Doubles.{entry_count}
use Rattle.night_doubles.specs.Laid.{cells_of, Blank}

-- no size or number of entries is over its limit, and no array of the plan too short
pub record Converts (p : Plan) : Type 0 where
  pub rows_few : p.rows ≤ max_rows
  pub cols_few : p.cols ≤ max_columns
  pub entries_few : entry_count (cells_of p.rows p.cols p.coefs) ≤ max_entries
  pub coefs_long : p.rows * p.cols ≤ length p.coefs
  pub costs_long : p.cols ≤ length p.costs
  pub lowers_long : p.cols ≤ length p.lowers
  pub uppers_long : p.cols ≤ length p.uppers
  pub lower_marks_long : p.cols ≤ length p.lower_marks
  pub upper_marks_long : p.cols ≤ length p.upper_marks
  pub rhs_long : p.rows ≤ length p.rhs

-- the lent arrays, as they are made
pub record Zeroed (costs lowers uppers : List Float) (starts cols : List ℕ) (coeffs rhs : List Float) : Type 0 where
  pub costs_zero : costs ≡ replicate max_columns f0
  pub lowers_zero : lowers ≡ replicate max_columns f0
  pub uppers_zero : uppers ≡ replicate max_columns f0
  pub starts_zero : starts ≡ replicate (max_rows + 1) 0
  pub blank : Blank cols coeffs
  pub rhs_zero : rhs ≡ replicate max_rows f0

-- the budget, the tolerance and the comparisons aren't converted
abbrev pub converted : ℕ → ℕ → ℕ → List Float → List Float → List Float → List ℕ → List ℕ → List Float → List Float
    → Rules.Plan
converted n m e costs lowers uppers starts cols coeffs rhs =
    plan_of n m e 0 f0 costs lowers uppers starts cols coeffs [] rhs

-- no array's length changes
pub record Long (costs lowers uppers : List Float) (cols : List ℕ) (coeffs rhs : List Float) : Type 0 where
  pub costs_long : length costs ≡ max_columns
  pub lowers_long : length lowers ≡ max_columns
  pub uppers_long : length uppers ≡ max_columns
  pub cols_long : length cols ≡ max_entries
  pub coeffs_long : length coeffs ≡ max_entries
  pub rhs_long : length rhs ≡ max_rows
