-- The coefficients passed are within their limit. Assumes nothing.
use Rattle.std.proofs.Common.{◌≡◌, true, ◌+◌, ◌*◌}
use Rattle.doubles.specs.Limits.{max_coefficient}
use Rattle.doubles.specs.Loop.{all}
use Rattle.sheet_rules.specs.Sum.{◌‼◌}
use Rattle.sheet_rules.specs.Opening.{within}
use Rattle.sheet_change_edit.proofs.column_fine.Given as goal

abbrev pub invariant-loop-i : goal.invariant-loop-i
invariant-loop-i l = all l.i (λ k. within max_coefficient (l.coefs ‼ (k * l.columns + l.column))) ≡ true
