-- No column before is the first. Assumes nothing.
use mathlib.Core.Bool.{not}
use Rattle.doubles.specs.Lists.{◌!◌}
use Rattle.doubles.proofs.Loops.{Seek}
use Rattle.whole_round.specs.Whole.{amount_of, is_whole}
use Rattle.whole_propose.specs.Propose.{first_amount}
use Rattle.whole_propose.proofs.first_amount.Given as goal

abbrev pub invariant-loop-j : goal.invariant-loop-j
invariant-loop-j l = Seek (λ k. not (is_whole (amount_of (l.values ! k)))) l.columns (first_amount l.columns l.values) l.j
