-- The sum of the terms passed. Assumes nothing.
use Rattle.std.proofs.Common.{◌≡◌}
use Rattle.doubles.specs.Lists.{◌#◌}
use Rattle.sheet_rules.specs.Sum.{◌‼◌, sum}
use Rattle.sheet_rules.specs.Sheet.{term}
use Rattle.sheet_sums.proofs.column_terms.Given as goal

abbrev pub invariant-loop-j : goal.invariant-loop-j
invariant-loop-j l = l.total ≡ sum l.j (λ k. term (l.d ‼ k) (l.lowers ‼ k) (l.uppers ‼ k) (l.lower_marks # k) (l.upper_marks # k))
