-- Each digit that is counted makes the rest less, so the count stays small. Assumes nothing.
use Rattle.std.proofs.Common.{◌≤◌, ◌+◌}
use Rattle.words.proofs.digits_of.Given as goal

abbrev pub invariant-loop-rest : goal.invariant-loop-rest
invariant-loop-rest l = l.k + l.rest ≤ 0x1000_0000_0000_0000

abbrev pub decreases-loop-rest : goal.decreases-loop-rest
decreases-loop-rest l = l.rest
