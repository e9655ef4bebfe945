-- After c turns the arrays are the definition's after c turns. Assumes nothing.
use Rattle.std.proofs.Common.{◌≡◌}
use Rattle.doubles.specs.Loop.{run}
use Rattle.lu_factor_rules.specs.Factor.{matrix}
use Rattle.lu_factor_rules.specs.Transpose.{placed_column}
use Rattle.lu_transpose.proofs.place.Given as goal

abbrev pub invariant-loop-c : goal.invariant-loop-c
invariant-loop-c l =
    matrix l.tstarts l.trows l.tvals ≡ run (placed_column (matrix l.starts l.rows l.vals)) l.c (matrix l.initial.tstarts l.initial.trows l.initial.tvals)
