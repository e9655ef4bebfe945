-- What 01's words for the sizes and numbers of a sheet give the code that reads them. Assumes nothing.
use Prim.Native.Nat.{ℕ, ◌*◌, ◌≤◌}
use native.Mathlib.Nat.{le_trans, mul-le-mul_left, mul-le-mul_right, lt_of_le_of_lt}
use lib.Dec.{lit<, lit≤}
use mir.Syntax.{w64}
use mir.Val.{Fits}
use Rattle.doubles.specs.Limits.{max_rows, max_columns}
use Rattle.sheet_rules.specs.Sheet.{Plan, Sheet}
use Rattle.sheet_rules.specs.Words.{Sized, Arrays}
use Rattle.sheet_tests.specs.Sized.{PlanSized, KeptSized, Fine}

-- the number of cells fits
pub cells_fit : (m n : ℕ) → m ≤ max_rows → n ≤ max_columns → Fits w64 (m * n)
cells_fit m n h k = record { fits = lt_of_le_of_lt (le_trans (mul-le-mul_left m k) (mul-le-mul_right max_columns h)) (lit< tt) }

pub plan_sized_holds : (s : Sheet) → Sized s → PlanSized s.plan
plan_sized_holds s z = record {
  rows_few = z.rows_fit;
  cols_few = z.cols_fit;
  coefs_long = z.coefs_fit;
  costs_long = z.costs_fit;
  lowers_long = z.lowers_fit;
  uppers_long = z.uppers_fit;
  lower_marks_long = z.lower_marks_fit;
  upper_marks_long = z.upper_marks_fit;
  rhs_long = z.rhs_fit;
  ops_long = z.ops_fit;
  amounts_long = z.amounts_fit;
  mults_long = z.mults_fit;
}

pub kept_sized : (s : Sheet) → Sized s → KeptSized s.plan.rows s.plan.cols s.kept
kept_sized s z = record {
  few = z.cols_fit;
  fewer = le_trans z.rows_fit (lit≤ tt);
  r_long = z.r_fits;
  d_long = z.d_fits;
  c_long = z.c_fits;
  b_long = z.b_fits;
  counts_long = z.counts_fit;
}

pub fine : (p : Plan) → PlanSized p → Arrays p → Fine p
fine p z a = record {
  costs_small = record { there = z.costs_long; at = a.costs_in };
  lowers_small = record { there = z.lowers_long; at = λ j l. (a.lowers_in j l).small };
  uppers_small = record { there = z.uppers_long; at = λ j l. (a.uppers_in j l).small };
  rhs_small = record { there = z.rhs_long; at = a.rhs_in };
  amounts_small = record { there = z.amounts_long; at = a.amounts_in };
  mults_small = record { there = z.mults_long; at = a.mults_in };
}
