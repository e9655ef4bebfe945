-- After r turns the counts are the definition's after r rows. Assumes nothing.
use Rattle.std.proofs.Common.{◌≡◌, []}
use Rattle.doubles.specs.Limits.{max_columns}
use Rattle.doubles.specs.Loop.{run}
use Rattle.rules.specs.Parts.{rowed}
use Rattle.basis_columns.specs.Columns.{count_row}
use Rattle.basis_columns.proofs.count_all.Given as goal

abbrev pub invariant-loop-i : goal.invariant-loop-i
invariant-loop-i l = l.counts ≡ run (count_row (rowed max_columns l.starts l.cols [] l.kept)) l.i-index l.fn.counts
