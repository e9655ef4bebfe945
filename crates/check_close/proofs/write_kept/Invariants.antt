-- After r turns the first r numbers stand at the front. Assumes nothing.
use Rattle.doubles.specs.Lists.{◌#◌}
use Rattle.doubles.proofs.Loops.{Filled}
use Rattle.check_close.proofs.write_kept.Given as goal

abbrev pub invariant-loop-r : goal.invariant-loop-r
invariant-loop-r l = Filled (λ i. l.kept # i) l.initial.to l.r l.to
