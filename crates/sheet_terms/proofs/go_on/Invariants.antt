-- The sum so far is that of the columns behind. Assumes nothing.
use Rattle.std.proofs.Common.{◌≡◌}
use lib.IntN.{◌*ℤ◌}
use Rattle.sheet_rules.specs.Sum.{◌‼◌, sum}
use Rattle.sheet_terms.proofs.go_on.Given as goal

abbrev pub invariant-loop-j : goal.invariant-loop-j
invariant-loop-j l = l.r ≡ sum l.j (λ k. l.row ‼ k *ℤ l.amounts ‼ k)
