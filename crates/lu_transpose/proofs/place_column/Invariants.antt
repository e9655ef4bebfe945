-- After k turns the arrays are the definition's after k turns. Assumes nothing.
use Rattle.std.proofs.Common.{◌≡◌, length}
use Rattle.doubles.specs.Loop.{run}
use Rattle.lu_factor_rules.specs.Factor.{matrix}
use Rattle.lu_factor_rules.specs.Transpose.{place_turn}
use Rattle.lu_transpose.proofs.place_column.Given as goal

abbrev pub invariant-loop-r : goal.invariant-loop-r
invariant-loop-r l =
    matrix l.tstarts l.trows l.tvals ≡ run (place_turn (matrix l.starts l.rows l.vals) l.c) (length l.yielded) (matrix l.initial.tstarts l.initial.trows l.initial.tvals)
