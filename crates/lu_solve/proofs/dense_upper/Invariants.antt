-- What is left of the columns makes of the values what all of them make. Assumes nothing.
use Rattle.std.proofs.Common.{◌≡◌, false}
use Rattle.doubles.specs.Loop.{down}
use Rattle.lu_solve.specs.Solve.{tri, process_col}
use Rattle.lu_solve.proofs.dense_upper.Given as goal

abbrev pub invariant-loop-col : goal.invariant-loop-col
invariant-loop-col l =
    let turn = process_col (tri false l.size l.starts l.rows l.vals l.has_diag l.diag) in
    down turn l.col l.values ≡ down turn l.size l.initial.values
