-- After r turns the counts are the definition's after r turns. Assumes nothing.
use Rattle.std.proofs.Common.{◌≡◌}
use Rattle.doubles.specs.Loop.{run}
use Rattle.lu_factor_rules.specs.Transpose.{sum_turn}
use Rattle.lu_transpose.proofs.sum_up.Given as goal

abbrev pub invariant-loop-r : goal.invariant-loop-r
invariant-loop-r l = l.counts ≡ run sum_turn l.r l.initial.counts
