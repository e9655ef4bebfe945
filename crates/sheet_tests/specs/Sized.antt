-- What a sheet's sizes and numbers promise once 11 and 12 or 14 have looked at them. Assumes nothing.
use Rattle.std.specs.Prelude.{[], ℕ, ◌*◌, ◌≤◌, length}
use Rattle.doubles.specs.Limits.{max_rows, max_columns, max_cost, max_right_side, max_bound, max_amount, max_multiplier}
use Rattle.sheet_rules.specs.Sheet.{Plan, Kept, plan_of}
use Rattle.sheet_terms.specs.Small.{Small}

-- the plan's arrays are long enough
pub record PlanSized (p : Plan) : Type 0 where
  pub rows_few : p.rows ≤ max_rows
  pub cols_few : p.cols ≤ max_columns
  pub coefs_long : p.rows * p.cols ≤ length p.coefs
  pub costs_long : p.cols ≤ length p.costs
  pub lowers_long : p.cols ≤ length p.lowers
  pub uppers_long : p.cols ≤ length p.uppers
  pub lower_marks_long : p.cols ≤ length p.lower_marks
  pub upper_marks_long : p.cols ≤ length p.upper_marks
  pub rhs_long : p.rows ≤ length p.rhs
  pub ops_long : p.rows ≤ length p.ops
  pub amounts_long : p.cols ≤ length p.amounts
  pub mults_long : p.rows ≤ length p.mults

-- and so are the kept ones
pub record KeptSized (m n : ℕ) (k : Kept) : Type 0 where
  pub few : n ≤ max_columns
  pub fewer : m ≤ max_columns
  pub r_long : m ≤ length k.R
  pub d_long : n ≤ length k.D
  pub c_long : 1 ≤ length k.C
  pub b_long : 1 ≤ length k.B
  pub counts_long : 4 ≤ length k.counts

-- every number but the coefficients is within its limit
pub record Fine (p : Plan) : Type 0 where
  pub costs_small : Small max_cost p.cols p.costs
  pub lowers_small : Small max_bound p.cols p.lowers
  pub uppers_small : Small max_bound p.cols p.uppers
  pub rhs_small : Small max_right_side p.rows p.rhs
  pub amounts_small : Small max_amount p.cols p.amounts
  pub mults_small : Small max_multiplier p.rows p.mults

-- a plan of which only the sizes matter
abbrev pub bare : ℕ → ℕ → Plan
bare m n = plan_of m n [] [] [] [] [] [] [] [] [] []
