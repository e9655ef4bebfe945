-- The norms are the definition's after k turns. Assumes nothing.
use mathlib.Core.Path.{◌≡◌}
use Rattle.doubles.specs.Loop.{run}
use Rattle.start_norms.specs.Squares.{square_turn}
use Rattle.start_norms.proofs.add_squares.Given as goal

abbrev pub invariant-loop-k : goal.invariant-loop-k
invariant-loop-k l = l.norms ≡ run (square_turn l.cols l.coeffs) l.k l.initial.norms
