-- After k turns the marks are the definition's after k turns. Assumes nothing.
use Rattle.std.proofs.Common.{◌≡◌, false}
use Rattle.std.specs.Prelude.{replicate}
use Rattle.doubles.specs.Limits.{max_rows}
use Rattle.doubles.specs.Loop.{run}
use Rattle.lu_solve.specs.Solve.{mark_turn}
use Rattle.lu_solve.proofs.mark_listed.Given as goal

abbrev pub invariant-loop-i : goal.invariant-loop-i
invariant-loop-i l = l.marks ≡ run (mark_turn l.list) l.i-index (replicate max_rows false)
