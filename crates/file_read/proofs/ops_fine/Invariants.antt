-- Each index passed is fine. Assumes nothing.
use Rattle.std.proofs.Common.{◌≡◌, true}
use Rattle.doubles.specs.Loop.{all}
use lib.Dec.{leb}
use Rattle.file_read.specs.Cells.{byte_at}
use Rattle.file_read.proofs.ops_fine.Given as goal

abbrev pub invariant-loop-i : goal.invariant-loop-i
invariant-loop-i l = all l.i (λ k. leb (byte_at l.file l.place k) 2) ≡ true
