-- The sum so far is that of the columns behind, summed or passed over. Assumes nothing.
use Rattle.std.proofs.Common.{◌≡◌, ◌≤◌, ◌-◌, length}
use lib.IntN.{◌*ℤ◌}
use Rattle.sheet_rules.specs.Sum.{◌‼◌, sum}
use Rattle.sheet_terms.proofs.activity.Given as goal

abbrev pub invariant-loop-j : goal.invariant-loop-j
invariant-loop-j l = (l.j ≤ length l.row) × (l.r ≡ sum l.j (λ k. l.row ‼ k *ℤ l.amounts ‼ k))

abbrev pub decreases-loop-j : goal.decreases-loop-j
decreases-loop-j l = length l.row - l.j
