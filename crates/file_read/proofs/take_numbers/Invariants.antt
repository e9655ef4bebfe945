-- The cells passed are filled. Assumes nothing.
use Rattle.doubles.proofs.Loops.{Filled}
use Rattle.file_read.specs.Cells.{number_at}
use Rattle.file_read.proofs.take_numbers.Given as goal

abbrev pub invariant-loop-k : goal.invariant-loop-k
invariant-loop-k l = Filled (number_at l.file l.place) l.initial.x-items l.k l.x-items
