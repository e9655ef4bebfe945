-- Parts of the choice that functions of their own answer. Assumes nothing.
use Rattle.std.specs.Prelude.{true, false, ◌&&◌, ℕ, Float}
use Rattle.std.specs.Float.Ieee.{lt}
use Rattle.rules.specs.Choose.{score_of}
use Rattle.rules.specs.DualRow.{outside, infeasibility_of, BestRow, best_row_of}
use Rattle.step_leaving.specs.declared.Best.{Best}

-- the code's best row as the definition's
abbrev pub row_of : Best → BestRow
row_of b = best_row_of b.row b.score

-- the turn at row r: its variable's bounds and value, and its dual norm
unfoldable pub better_row_of : ℕ → Float → Float → Float → Float → BestRow → BestRow
better_row_of r lo x hi norm b =
    let score = score_of (infeasibility_of lo x hi) norm in
    elim (outside lo x hi && lt b.score score) [ true ↦ best_row_of r score | false ↦ b ]
