-- After r turns the cells are the definition's after r rows. Assumes nothing.
use Rattle.std.proofs.Common.{◌≡◌}
use Rattle.doubles.specs.Loop.{run}
use Rattle.rules.specs.Parts.{rowed}
use Rattle.basis_columns.specs.Columns.{cells, place_row}
use Rattle.basis_columns.proofs.place_all.Given as goal

abbrev pub invariant-loop-r : goal.invariant-loop-r
invariant-loop-r l = cells l.next l.crows l.ccoeffs ≡ run (place_row (rowed 0 l.starts l.cols l.coeffs l.kept)) l.r (cells l.fn.next l.fn.crows l.fn.ccoeffs)
