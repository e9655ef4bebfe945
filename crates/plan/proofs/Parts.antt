-- The definitions read only what they name: for each contract of this crate, that the part that is lent gives what the whole plan gives. Assumes nothing.
use mathlib.Core.Path.{◌≡◌, refl}
use mathlib.Core.List.{[]}
use Prim.Native.Nat.{ℕ}
use Rattle.doubles.specs.Num.{f0}
use Rattle.rules.specs.Plan.{Plan, row_cols, row_coeffs, kept_rows}
use Rattle.rules.specs.Parts.{plan_of}
use Rattle.rules.specs.Refusals.{sizes_fit, plan_long, starts_rise, passes2, first_bad_row, first_crossed, first_false}
use Rattle.plan.specs.Lent.{rows_of, bounds_of, empties_of}
use Rattle.plan.specs.Refused.{bad_entry, refusal_of}

module _ (p : Plan) where
  pub sizes_part : sizes_fit p ≡ sizes_fit (plan_of p.columns p.rows p.entries p.budget f0 [] [] [] [] [] [] [] [])
  unfolding sizes_fit
  sizes_part = refl

  pub long_part : plan_long p ≡ plan_long (plan_of p.columns p.rows p.entries 0 f0 p.costs p.lowers p.uppers p.starts p.cols p.coeffs p.ops p.rhs)
  unfolding plan_long
  long_part = refl

  pub starts_part : starts_rise p ≡ starts_rise (plan_of 0 p.rows p.entries 0 f0 [] [] [] p.starts [] [] [] [])
  unfolding starts_rise
  starts_part = refl

  pub cols_part : (i : ℕ) → row_cols p i ≡ row_cols (rows_of 0 0 p.starts p.cols) i
  cols_part i = refl

  pub coeffs_part : (i : ℕ) → row_coeffs p i ≡ row_coeffs (plan_of 0 0 0 0 f0 [] [] [] p.starts [] p.coeffs [] []) i
  coeffs_part i = refl

  pub bad_part : bad_entry p ≡ bad_entry (rows_of p.columns p.rows p.starts p.cols)
  unfolding bad_entry first_bad_row
  bad_part = refl

  pub crossed_part : first_crossed p ≡ first_crossed (bounds_of p.columns p.lowers p.uppers)
  unfolding first_crossed
  crossed_part = refl

  pub false_part : first_false p ≡ first_false (empties_of p.rows p.starts p.ops p.rhs)
  unfolding first_false
  false_part = refl

  pub kept_part : kept_rows p ≡ kept_rows (rows_of 0 p.rows p.starts [])
  unfolding kept_rows
  kept_part = refl

  pub refusal_part : refusal_of p ≡ refusal_of (plan_of p.columns p.rows p.entries 0 p.tolerance p.costs p.lowers p.uppers p.starts p.cols p.coeffs p.ops p.rhs)
  unfolding refusal_of starts_rise passes2 first_bad_row first_crossed first_false
  refusal_part = refl
