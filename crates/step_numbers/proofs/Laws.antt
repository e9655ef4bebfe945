-- Tests in a row, and the norms by their parts. No contract cites this file. Assumes nothing.
use mathlib.Core.Path.{◌≡◌, refl, ap}
use mathlib.Core.Bool.{Bool, true, false, ◌&&◌}
use Prim.Native.Nat.{ℕ}
use lib.Ieee.{Float}
use Rattle.doubles.specs.Num.{◌⊕◌, f1}
use Rattle.sparse.specs.Scattered.{Sv, sq_norm}
use Rattle.rules.specs.Plan.{Workspace}
use Rattle.rules.specs.Pivot.{new_norm, new_dual_norm}
use Rattle.rules.specs.declared.Entering.{Entering}
use Rattle.step_numbers.specs.New.{norm_by, norm_at}

-- tests in a row: one that fails, and one after those that pass
pub fails : {a : Bool} (b : Bool) → a ≡ false → a && b ≡ false
fails b e = rw e

pub passes : {a b d : Bool} → a ≡ true → b ≡ d → a && b ≡ d
passes e f = rw e f

-- the new norms out of arrays: with the entering column's sum of squares, and the dual ones
module _ (w : Workspace) (pivot sq : Float) where
  pub norm_is : (e : Entering) (c row helper : Sv) → sq ≡ sq_norm c
      → norm_at e.col (sq ⊕ f1) pivot w.norms row.vals helper.vals ≡ new_norm w e c pivot row helper
  unfolding new_norm norm_by
  norm_is e c row helper q =
      ap {B = ℕ → Float} (λ x j. norm_at e.col (x ⊕ f1) pivot w.norms row.vals helper.vals j) q

  pub dual_norm_is : (c : Sv) (row : ℕ) (tau : Sv)
      → norm_at row sq pivot w.dual_norms c.vals tau.vals ≡ new_dual_norm w c row pivot sq tau
  unfolding new_dual_norm norm_by
  dual_norm_is c row tau = refl
