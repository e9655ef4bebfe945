-- The columns passed have theirs. Assumes nothing.
use Rattle.doubles.specs.Lists.{◌!◌}
use Rattle.doubles.proofs.Loops.{Filled}
use Rattle.whole_round.specs.Whole.{amount_of, number_of}
use Rattle.whole_propose.proofs.write_amounts.Given as goal

abbrev pub invariant-loop-j : goal.invariant-loop-j
invariant-loop-j l = Filled (λ k. number_of (amount_of (l.values ! k))) l.fn.amounts l.j l.amounts
