-- After k turns the bits are the definition's after k turns. Assumes nothing.
use Rattle.std.proofs.Common.{◌≡◌}
use lib.Bits.{bit_or}
use lib.Signed.{mag}
use Rattle.doubles.specs.Loop.{run}
use Rattle.sheet_rules.specs.Sum.{◌‼◌}
use Rattle.sheet_tests.proofs.joined.Given as goal

abbrev pub invariant-loop-x : goal.invariant-loop-x
invariant-loop-x l = l.bits ≡ run (λ k b. bit_or b (mag (l.xs ‼ k))) l.x-index 0
