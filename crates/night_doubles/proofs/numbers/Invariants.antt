-- The cells passed have theirs. Assumes nothing.
use Rattle.doubles.proofs.Loops.{Filled}
use Rattle.sheet_rules.specs.Sum.{◌‼◌}
use Rattle.night_rules.specs.Doubles.{as_double}
use Rattle.night_doubles.proofs.numbers.Given as goal

abbrev pub invariant-loop-j : goal.invariant-loop-j
invariant-loop-j l = Filled (λ k. as_double (l.xs ‼ k)) l.fn.out l.j l.out
