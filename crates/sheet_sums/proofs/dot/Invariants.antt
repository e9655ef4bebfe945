-- The sum of the products passed. Assumes nothing.
use Rattle.std.proofs.Common.{◌≡◌}
use lib.IntN.{◌*ℤ◌}
use Rattle.sheet_rules.specs.Sum.{◌‼◌, sum}
use Rattle.sheet_sums.proofs.dot.Given as goal

abbrev pub invariant-loop-k : goal.invariant-loop-k
invariant-loop-k l = l.total ≡ sum l.k (λ k. l.xs ‼ k *ℤ l.ys ‼ k)
