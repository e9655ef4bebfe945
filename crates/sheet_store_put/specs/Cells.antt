-- C, B and the counts as cells: what is written over the front of their arrays. Assumes nothing.
use Rattle.std.specs.Prelude.{[], ◌∷◌}
use Rattle.sheet_rules.specs.Sheet.{Kept, kept_of}
use Rattle.sheet_change_moves.specs.declared.Totals.{Totals}

abbrev pub cells_of : Totals → Kept
cells_of t = kept_of [] [] (t.cost ∷ []) (t.floor ∷ []) (t.broken ∷ t.outside ∷ t.wrong ∷ t.absent ∷ [])
