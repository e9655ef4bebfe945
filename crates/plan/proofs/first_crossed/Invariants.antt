-- What is left to look at gives the whole's answer. Assumes nothing.
use Rattle.doubles.proofs.Loops.{Seek}
use Rattle.rules.specs.Refusals.{crossed, first_crossed}
use Rattle.plan.specs.Lent.{bounds_of}
use Rattle.plan.proofs.first_crossed.Given as goal

abbrev pub invariant-loop-j : goal.invariant-loop-j
invariant-loop-j l = Seek (crossed (bounds_of l.columns l.lowers l.uppers)) l.columns (first_crossed (bounds_of l.columns l.lowers l.uppers)) l.j
