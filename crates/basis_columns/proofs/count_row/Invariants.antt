-- After k turns the counts are the definition's after k turns. Assumes nothing.
use Rattle.std.proofs.Common.{◌≡◌}
use Rattle.doubles.specs.Loop.{run}
use Rattle.basis_columns.specs.Columns.{count_turn}
use Rattle.basis_columns.proofs.count_row.Given as goal

abbrev pub invariant-loop-c : goal.invariant-loop-c
invariant-loop-c l = l.counts ≡ run (count_turn l.cols) l.c-index l.fn.counts
