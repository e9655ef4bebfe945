-- Each index passed is fine. Assumes nothing.
use Rattle.std.proofs.Common.{◌≡◌, true}
use Rattle.doubles.specs.Loop.{all}
use Rattle.sheet_rules.specs.Opening.{within}
use Rattle.file_read.specs.Cells.{number_at}
use Rattle.file_read.proofs.all_within.Given as goal

abbrev pub invariant-loop-i : goal.invariant-loop-i
invariant-loop-i l = all l.i (λ k. within l.limit (number_at l.file l.place k)) ≡ true
