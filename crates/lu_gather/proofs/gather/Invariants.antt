-- After k turns L and U are the definition's after k turns. Assumes nothing.
use Rattle.std.proofs.Common.{◌≡◌}
use Rattle.doubles.specs.Loop.{run}
use Rattle.lu_factor_rules.specs.Factor.{gather_turn}
use Rattle.lu_factor_rules.specs.Counted.{parts_of}
use Rattle.lu_gather.proofs.gather.Given as goal

abbrev pub invariant-loop-r : goal.invariant-loop-r
invariant-loop-r l =
    parts_of l.lrows l.lvals l.urows l.uvals l.c ≡ run (gather_turn l.number l.i l.row l.values l.list) l.r-index
    (parts_of l.initial.lrows l.initial.lvals l.initial.urows l.initial.uvals l.initial.c)
