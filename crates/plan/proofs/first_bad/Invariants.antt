-- In each loop, what is left to look at gives the whole's answer. Assumes nothing.
use lib.ListN.{length}
use Rattle.doubles.proofs.Loops.{Seek}
use Rattle.rules.specs.Plan.{row_cols}
use Rattle.rules.specs.Refusals.{bad_at, first_bad_in, has_bad, first_bad_row}
use Rattle.plan.specs.Lent.{rows_of}
use Rattle.plan.proofs.first_bad.Given as goal

abbrev pub invariant-loop-row : goal.invariant-loop-row
invariant-loop-row l = let p = rows_of l.columns l.rows l.starts l.cols in Seek (has_bad p) l.rows (first_bad_row p) l.row

abbrev pub invariant-loop-place : goal.invariant-loop-place
invariant-loop-place l = let p = rows_of l.columns l.rows l.starts l.cols in Seek (bad_at l.columns (row_cols p l.row)) (length (row_cols p l.row)) (first_bad_in p l.row) l.place
