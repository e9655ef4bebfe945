-- Each index passed is fine. Assumes nothing.
use Rattle.std.proofs.Common.{◌≡◌, true}
use Rattle.doubles.specs.Loop.{all}
use Rattle.sheet_rules.specs.Opening.{bound_fine}
use Rattle.file_read.specs.Cells.{number_at, byte_at}
use Rattle.file_read.proofs.bounds_fine.Given as goal

abbrev pub invariant-loop-i : goal.invariant-loop-i
invariant-loop-i l = all l.i (λ k. bound_fine (byte_at l.file l.marks k) (number_at l.file l.place k)) ≡ true
