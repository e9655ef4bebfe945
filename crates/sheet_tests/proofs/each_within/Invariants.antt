-- The numbers looked at are within the limit. Assumes nothing.
use Rattle.std.proofs.Common.{◌≡◌}
use mathlib.Core.Bool.{true}
use Rattle.doubles.specs.Loop.{all}
use Rattle.sheet_rules.specs.Sum.{◌‼◌}
use Rattle.sheet_rules.specs.Opening.{within}
use Rattle.sheet_tests.proofs.each_within.Given as goal

abbrev pub invariant-loop-x : goal.invariant-loop-x
invariant-loop-x l = all l.x-index (λ k. within l.limit (l.xs ‼ k)) ≡ true
