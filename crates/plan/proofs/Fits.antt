-- What a plan that fits gives the callers of the rows, and what the kept rows leave to lend. Assumes nothing.
use mathlib.Core.Path.{◌≡◌, sym, ap, ◌∙◌}
use mathlib.Core.List.{List}
use Prim.Native.Nat.{ℕ, ◌<◌}
use native.Mathlib.Omega.{arith}
use lib.ListN.{length, take, drop}
use lib.Seq.{take_at}
use Rattle.rules.specs.Plan.{Plan}
use Rattle.rules.specs.Invariant.{PlanFits}
use Rattle.plan.specs.Lent.{RowIn, Front}

module _ (p : Plan) (f : PlanFits p) (i : ℕ) (h : i < p.rows) where
  pub row_cols_in : RowIn p.starts (length p.cols) i
  row_cols_in = let r = f.row i h in record { has = omega (arith, f.starts_long); rises = r.rises; ends = omega (arith, r.ends, f.cols_long) }

  pub row_coeffs_in : RowIn p.starts (length p.coeffs) i
  row_coeffs_in = let r = f.row i h in record { has = omega (arith, f.starts_long); rises = r.rises; ends = omega (arith, r.ends, f.coeffs_long) }

-- the front, lent: `&kept[..m]` is the list of the kept rows
pub front_taken : {xs l : List ℕ} {k : ℕ} {l' : List ℕ} → Front xs l k l' → take k l' ≡ xs
front_taken {xs} {l} {k} f = ap (take k) f.cells ∙ take_at xs (drop (length xs) l) k (sym f.counted)
