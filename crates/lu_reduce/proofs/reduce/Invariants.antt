-- What is left to do gives the definition's answer. Assumes nothing.
use Rattle.std.proofs.Common.{◌≡◌}
use Rattle.doubles.specs.Limits.{places}
use Rattle.doubles.specs.Loop.{down}
use Rattle.sparse.specs.Scattered.{sv, Good}
use Rattle.lu_factor_rules.specs.Factor.{back_turn}
use Rattle.lu_reduce.proofs.reduce.Given as goal

abbrev pub invariant-loop-k : goal.invariant-loop-k
invariant-loop-k l =
    record {
      good : Good places (sv l.values l.marks l.list l.c);
      left : down (back_turn l.number l.i l.starts l.rows l.vals l.done) l.k (sv l.values l.marks l.list l.c)
          ≡ down (back_turn l.number l.i l.starts l.rows l.vals l.done) l.n (sv l.initial.values l.initial.marks l.initial.list l.initial.c);
    }
