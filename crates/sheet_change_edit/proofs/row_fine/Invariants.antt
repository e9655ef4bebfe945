-- The coefficients passed are within their limit. Assumes nothing.
use Rattle.std.proofs.Common.{◌≡◌, true, ◌+◌, ◌*◌}
use Rattle.doubles.specs.Limits.{max_coefficient}
use Rattle.doubles.specs.Loop.{all}
use Rattle.sheet_rules.specs.Sum.{◌‼◌}
use Rattle.sheet_rules.specs.Opening.{within}
use Rattle.sheet_change_edit.proofs.row_fine.Given as goal

abbrev pub invariant-loop-j : goal.invariant-loop-j
invariant-loop-j l = all l.j (λ k. within max_coefficient (l.coefs ‼ (l.row * l.columns + k))) ≡ true
