-- After k turns the counts are the definition's after k turns. Assumes nothing.
use Rattle.std.proofs.Common.{◌≡◌}
use Rattle.doubles.specs.Loop.{run}
use Rattle.lu_factor_rules.specs.Transpose.{count_turn}
use Rattle.lu_transpose.proofs.count_rows.Given as goal

abbrev pub invariant-loop-r : goal.invariant-loop-r
invariant-loop-r l = l.counts ≡ run (count_turn l.rows) l.r-index l.initial.counts
