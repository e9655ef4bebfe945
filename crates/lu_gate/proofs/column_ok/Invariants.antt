-- Every row before the index is inside. Assumes nothing.
use Rattle.std.proofs.Common.{◌≡◌, true}
use Rattle.doubles.specs.Loop.{all}
use Rattle.lu_walk.specs.Walk.{shape}
use Rattle.lu_gate.specs.Gate.{ok_row}
use Rattle.lu_gate.proofs.column_ok.Given as goal

abbrev pub invariant-loop-row : goal.invariant-loop-row
invariant-loop-row l = all l.row-index (ok_row (shape l.lower l.size l.starts l.rows) l.col) ≡ true
