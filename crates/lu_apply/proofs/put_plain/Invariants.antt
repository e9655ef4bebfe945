-- After k turns the vector is the definition's after k turns. Assumes nothing.
use Rattle.std.proofs.Common.{◌≡◌}
use Rattle.doubles.specs.Loop.{run}
use Rattle.sparse.specs.Scattered.{sv}
use Rattle.lu_factor_rules.specs.Solves.{plain_turn}
use Rattle.lu_apply.proofs.put_plain.Given as goal

abbrev pub invariant-loop-i : goal.invariant-loop-i
invariant-loop-i l =
    sv l.to_values l.to_marks l.to_list l.c ≡ run (plain_turn l.values l.list) l.i-index (sv l.initial.to_values l.initial.to_marks l.initial.to_list l.initial.c)
