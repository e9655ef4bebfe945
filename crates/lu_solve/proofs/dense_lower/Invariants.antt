-- After col turns the values are the definition's after col turns. Assumes nothing.
use Rattle.std.proofs.Common.{◌≡◌, true}
use Rattle.doubles.specs.Loop.{run}
use Rattle.lu_solve.specs.Solve.{tri, process_col}
use Rattle.lu_solve.proofs.dense_lower.Given as goal

abbrev pub invariant-loop-col : goal.invariant-loop-col
invariant-loop-col l =
    let t = tri true l.size l.starts l.rows l.vals l.has_diag l.diag in
    l.values ≡ run (process_col t) l.col l.initial.values
