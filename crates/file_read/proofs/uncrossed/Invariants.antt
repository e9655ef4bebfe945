-- Each index passed is fine. Assumes nothing.
use Rattle.std.proofs.Common.{◌≡◌, true}
use Rattle.doubles.specs.Loop.{all}
use mathlib.Core.Bool.{not}
use Rattle.sheet_rules.specs.Opening.{crosses}
use Rattle.file_read.specs.Cells.{number_at, byte_at}
use Rattle.file_read.proofs.uncrossed.Given as goal

abbrev pub invariant-loop-j : goal.invariant-loop-j
invariant-loop-j l = all l.j (λ k. not (crosses (number_at l.file l.lowers k) (number_at l.file l.uppers k) (byte_at l.file l.lower_marks k) (byte_at l.file l.upper_marks k))) ≡ true
