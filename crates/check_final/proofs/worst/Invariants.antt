-- The largest is the definition's after k turns. Assumes nothing.
use mathlib.Core.Path.{◌≡◌}
use Rattle.doubles.specs.Num.{f0}
use Rattle.doubles.specs.Loop.{run}
use Rattle.rules.specs.FinalCheck.{worst_of, worst_turn}
use Rattle.check_final.specs.Lent.{measured_of}
use Rattle.check_final.proofs.worst.Given as goal

abbrev pub invariant-loop-k : goal.invariant-loop-k
invariant-loop-k l =
    l.w ≡ run (worst_turn (measured_of l.n l.lowers l.uppers l.starts l.cols l.coeffs l.ops l.rhs l.kept) l.xs) l.k (worst_of l.places f0)
