-- `start_values::start_slacks` meets its contract. Assumes nothing.
use native.Mathlib.Omega.{arith}
use Rattle.doubles.proofs.Loops.{filled_none, filled_more, filled_done}
use Rattle.start_values.proofs.start_slacks.Goals as goal

pub loop-r-init : goal.loop-r-init
loop-r-init c = filled_none

pub start_slack-requires : goal.start_slack-requires
start_slack-requires c = record {
  r_in_bounds = (c.loop-r-test.true, c.requires.kept_len_bound.2);
  row_reads = c.requires.rows_read.row _ c.loop-r-test.true;
}

pub loop-r-preserved : goal.loop-r-preserved
loop-r-preserved c = filled_more c.loop-r.invariant (omega arith) c.start_slack.ensures

pub returns : goal.returns
returns c = filled_done _ c.loop-r.auto.r-end c.loop-r-test.false c.loop-r.invariant
