-- The norms are the definition's after as many turns. Assumes nothing.
use mathlib.Core.Path.{◌≡◌}
use Rattle.doubles.specs.Loop.{run}
use Rattle.rules.specs.Parts.{rowed}
use Rattle.start_norms.specs.Squares.{square_row}
use Rattle.start_norms.proofs.sum_squares.Given as goal

abbrev pub invariant-loop-i : goal.invariant-loop-i
invariant-loop-i l = l.norms ≡ run (square_row (rowed 0 l.starts l.cols l.coeffs l.kept)) l.i-index l.initial.norms
