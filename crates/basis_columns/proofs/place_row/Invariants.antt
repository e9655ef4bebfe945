-- After k turns the cells are the definition's after k turns. Assumes nothing.
use Rattle.std.proofs.Common.{◌≡◌}
use Rattle.doubles.specs.Loop.{run}
use Rattle.basis_columns.specs.Columns.{cells, place_turn}
use Rattle.basis_columns.proofs.place_row.Given as goal

abbrev pub invariant-loop-k : goal.invariant-loop-k
invariant-loop-k l = cells l.next l.crows l.ccoeffs ≡ run (place_turn l.r l.cols l.coeffs) l.k (cells l.fn.next l.fn.crows l.fn.ccoeffs)
