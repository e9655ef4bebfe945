-- After k turns the best is the definition's after k turns. Assumes nothing.
use Rattle.std.proofs.Common.{◌≡◌}
use Rattle.doubles.specs.Num.{f0}
use Rattle.doubles.specs.Loop.{run}
use Rattle.lu_factor_rules.specs.Factor.{best, best_turn}
use Rattle.lu_gather.proofs.choose.Given as goal

abbrev pub invariant-loop-r : goal.invariant-loop-r
invariant-loop-r l = l.b ≡ run (best_turn l.number l.i l.values l.list) l.r-index (best 0 f0)
