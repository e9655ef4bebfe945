-- `start_values::start_slack` meets its contract: the row is a part of the entries, and its columns are within the values. Assumes nothing.
use Rattle.rules.specs.Start.{start_slack}
use Rattle.plan.proofs.Kept.{row_read}
use Rattle.start_values.proofs.start_slack.Goals as goal

pub dot-requires : goal.dot-requires
dot-requires c = rw (c.row_cols-row_cols.ensures, c.row_coeffs-row_coeffs.ensures) (row_read _ _ _ c.requires.row_reads)

pub returns : goal.returns
unfolding start_slack
returns c = rw (c.dot.ensures, c.row_cols-row_cols.ensures, c.row_coeffs-row_coeffs.ensures)
