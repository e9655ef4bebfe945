-- Every column before `col` is in order. Assumes nothing.
use Rattle.std.proofs.Common.{◌≡◌, true}
use Rattle.doubles.specs.Loop.{all}
use Rattle.lu_walk.specs.Walk.{shape}
use Rattle.lu_gate.specs.Gate.{ok_column}
use Rattle.lu_gate.proofs.rows_ok.Given as goal

abbrev pub invariant-loop-col : goal.invariant-loop-col
invariant-loop-col l = all l.col (ok_column (shape l.lower l.size l.starts l.rows)) ≡ true
