-- The first r cells are filled. Assumes nothing.
use Rattle.doubles.proofs.Loops.{Filled}
use Rattle.rules.specs.Start.{start_slack}
use Rattle.start_values.specs.Lent.{sided}
use Rattle.start_values.proofs.start_slacks.Given as goal

abbrev pub invariant-loop-r : goal.invariant-loop-r
invariant-loop-r l = Filled (start_slack (sided l.starts l.cols l.coeffs l.rhs l.kept) l.xs) l.initial.slacks l.r l.slacks
