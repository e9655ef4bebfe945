-- After j turns the first j starts stand at the front of both. Assumes nothing.
use Rattle.std.proofs.Common.{◌≡◌}
use Rattle.doubles.proofs.Loops.{Filled}
use Rattle.basis_columns.specs.Columns.{sum}
use Rattle.basis_columns.proofs.sum_up.Given as goal

abbrev pub invariant-loop-j : goal.invariant-loop-j
invariant-loop-j l = (l.at ≡ sum l.counts l.j) × Filled (sum l.counts) l.fn.starts l.j l.starts × Filled (sum l.counts) l.fn.next l.j l.next
