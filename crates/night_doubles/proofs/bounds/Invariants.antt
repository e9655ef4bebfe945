-- The cells passed have theirs. Assumes nothing.
use Rattle.doubles.specs.Lists.{◌#◌}
use Rattle.doubles.proofs.Loops.{Filled}
use Rattle.sheet_rules.specs.Sum.{◌‼◌}
use Rattle.night_rules.specs.Doubles.{bound_or}
use Rattle.night_doubles.proofs.bounds.Given as goal

abbrev pub invariant-loop-j : goal.invariant-loop-j
invariant-loop-j l = Filled (λ k. bound_or l.absent (l.marks # k) (l.xs ‼ k)) l.fn.out l.j l.out
