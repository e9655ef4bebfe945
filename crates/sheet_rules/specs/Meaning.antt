-- Demand 3: of which sheets it speaks, and what it says of each. Assumes nothing.
use Rattle.std.specs.Prelude.{◌≡◌, ℕ, ℤ}
use Rattle.sheet_rules.specs.Sheet.{Sheet, fresh, over_kept}
use Rattle.sheet_rules.specs.Words.{Gapped}
use Rattle.sheet_rules.specs.Promises.{Opens, Edits, Judges}
use Rattle.sheet_rules.specs.declared.Edit.{Edit}
use Rattle.sheet_rules.specs.declared.Verdict.TheVariants.{Gap}

-- A sheet as calls leave it: an opening that was accepted, whatever was lent to it, and then edits and openings in any
-- order, whatever they answered. A verdict leaves the sheet as it is and needs no line
pub data Called : Sheet → Type 0 where
  opened : {s t : Sheet} → Opens s 0 t → Called t
  edited : {s t : Sheet} (e : Edit) (answer : ℕ) → Called s → Edits s e answer t → Called t
  reopened : {s t : Sheet} (answer : ℕ) → Called s → Opens s answer t → Called t

-- What demand 3 says of such a sheet
pub record Demand3 (s : Sheet) : Type 0 where
  -- the kept sheet equals one worked out afresh: every cell of R, D, C, B and the counts
  pub afresh : s.kept ≡ over_kept (fresh s.plan) s.kept
  -- so an opening of it is accepted and changes no cell
  pub opens_alike : (answer : ℕ) (t : Sheet) → Opens s answer t → (answer ≡ 0) × (t ≡ s)
  -- where the verdict shows a gap, no amounts, whole or fractional, that keep every row and bound are cheaper than ours
  -- by more than that gap
  pub gap_is : (g : ℤ) → Judges s (Gap g) → Gapped s g
