-- The change of a row's R and of a column's D, by the plan alone. Assumes nothing.
use Rattle.std.specs.Prelude.{ℕ, ℤ, pos, ◌-ℤ◌, ◌*ℤ◌}
use Rattle.doubles.specs.Limits.{unit}
use Rattle.sheet_rules.specs.Sheet.{Plan, Kept, sheet_of, a, c, x, Y}
use Rattle.sheet_rules.specs.Edit.{edited}
use Rattle.sheet_rules.specs.declared.Edit.{Edit}
use Rattle.sheet_change_moves.specs.After.{Ready}

-- the plan of a sheet whose edit is ready
pub record PlanReady (p : Plan) (e : Edit) : Type 0 where
  pub kept : Kept
  pub ready : Ready (sheet_of p kept) e

unfoldable pub row_change : Plan → Edit → ℕ → ℤ
row_change p e i = let q = edited p e in a q i e.column *ℤ x q e.column -ℤ a p i e.column *ℤ x p e.column

unfoldable pub price_change : Plan → Edit → ℕ → ℤ
price_change p e j = let q = edited p e in pos unit *ℤ c q j -ℤ a q e.row j *ℤ Y q e.row -ℤ (pos unit *ℤ c p j -ℤ a p e.row j *ℤ Y p e.row)
