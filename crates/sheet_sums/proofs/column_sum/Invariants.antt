-- The sum of the products passed. Assumes nothing.
use Rattle.std.proofs.Common.{◌≡◌}
use Rattle.std.proofs.Common.{◌+◌, ◌*◌}
use lib.IntN.{◌*ℤ◌}
use Rattle.sheet_rules.specs.Sum.{◌‼◌, sum}
use Rattle.sheet_sums.proofs.column_sum.Given as goal

abbrev pub invariant-loop-i : goal.invariant-loop-i
invariant-loop-i l = l.total ≡ sum l.i (λ k. l.coefs ‼ (k * l.columns + l.column) *ℤ l.mults ‼ k)
