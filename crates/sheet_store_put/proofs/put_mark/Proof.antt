-- `sheet_store_put::put_mark` meets its contract. Assumes nothing.
use native.Mathlib.Omega.{arith}
use borrow.Author.Rules.{rules}
use Rattle.sheet_store_put.proofs.Laws.{put_hit, put_miss}
use Rattle.sheet_store_put.proofs.put_mark.Statement.{statement}
use Rattle.sheet_store_put.proofs.put_mark.Tie as tie

slice-write-marks : tie.Need-bounds-marks-i
slice-write-marks c = omega (arith, c.requires c.if-hit.true)

same_length : tie.Need-shape_of-marks
same_length c = search rules

returns : tie.Need-returns-then-hit
returns c = put_hit _ _ _ _ c.if-hit.true

returns-2 : tie.Need-returns-else-hit
returns-2 c = put_miss _ _ _ _ c.if-hit.false

pub put_mark_spec : {M : Type 1} → statement M
put_mark_spec = tie.close (tie.spec slice-write-marks same_length returns returns-2)
