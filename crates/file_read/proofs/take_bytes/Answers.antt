-- `file_read::take_bytes` meets its contract. Assumes nothing.
use Rattle.std.proofs.Common.{arith}
use Rattle.doubles.proofs.Loops.{filled_none, filled_more}
use Rattle.file_read.proofs.take_bytes.Goals as goal

pub loop-k-init : goal.loop-k-init
loop-k-init c = filled_none

pub loop-k-preserved : goal.loop-k-preserved
loop-k-preserved c = filled_more c.loop-k.invariant (omega arith) c.byte_at.ensures
