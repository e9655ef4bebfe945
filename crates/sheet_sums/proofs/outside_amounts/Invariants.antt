-- The count of the places passed. Assumes nothing.
use Rattle.std.proofs.Common.{◌≡◌}
use Rattle.doubles.specs.Lists.{◌#◌}
use Rattle.sheet_rules.specs.Sum.{◌‼◌, sum, bit}
use Rattle.sheet_rules.specs.Sheet.{outside}
use Rattle.sheet_sums.proofs.outside_amounts.Given as goal

abbrev pub invariant-loop-j : goal.invariant-loop-j
invariant-loop-j l = l.total ≡ sum l.j (λ k. bit (outside (l.amounts ‼ k) (l.lowers ‼ k) (l.uppers ‼ k) (l.lower_marks # k) (l.upper_marks # k)))
