-- Every factor, and every factor transposed, can be solved with. Assumes nothing.
use mathlib.Core.Bool.{true, false}
use Prim.Native.Nat.{ℕ, ◌≤◌}
use native.Mathlib.Omega.{arith}
use Rattle.doubles.specs.Limits.{max_tri_entries}
use Rattle.doubles.specs.Lists.{◌#◌}
use Rattle.lu_factor_rules.specs.Factor.{Factor}
use Rattle.lu_factor_rules.specs.Transpose.{transpose}
use Rattle.lu_factor_rules.proofs.Shaped.{IsFactor}
use Rattle.lu_factor_rules.proofs.Keeps.{fits_whole}
use Rattle.lu_transpose.specs.Read.{Read}
use Rattle.lu_transpose.proofs.Columns.{readable, transpose_columns, transpose_vals}
use Rattle.lu_apply.specs.Ask.{Solid}

module _ {m : ℕ} {f : Factor} (s : IsFactor m f) where
  lower_fits : f.lower.starts # m ≤ max_tri_entries
  lower_fits = omega (arith, s.lower_most, fits_whole m s.lower.small)

  upper_fits : f.upper.starts # m ≤ max_tri_entries
  upper_fits = omega (arith, s.upper_most, fits_whole m s.lower.small)

  -- L and U can be transposed
  pub lower_read : Read m f.lower
  lower_read = readable true m f.lower s.lower s.lower_first_holds lower_fits s.lower_vals

  pub upper_read : Read m f.upper
  upper_read = readable false m f.upper s.upper s.upper_first upper_fits s.upper_vals

  pub solid_factor : Solid m f.number f.lower f.upper f.diag
  solid_factor =
      record {
        map_long = s.number_long;
        leads = s.number_in;
        lower_columns = s.lower;
        upper_columns = s.upper;
        lower_vals = s.lower_vals;
        upper_vals = s.upper_vals;
        diag_long = s.diag_long;
      }

  pub solid_transposed : Solid m f.order (transpose m f.upper) (transpose m f.lower) f.diag
  solid_transposed =
      record {
        map_long = s.order_long;
        leads = s.order_in;
        lower_columns = transpose_columns false m f.upper s.upper s.upper_first upper_fits s.upper_vals;
        upper_columns = transpose_columns true m f.lower s.lower s.lower_first_holds lower_fits s.lower_vals;
        lower_vals = transpose_vals false m f.upper s.upper s.upper_first upper_fits s.upper_vals;
        upper_vals = transpose_vals true m f.lower s.lower s.lower_first_holds lower_fits s.lower_vals;
        diag_long = s.diag_long;
      }
