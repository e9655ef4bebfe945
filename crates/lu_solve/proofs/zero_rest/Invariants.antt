-- After i turns the values are the definition's after i turns. Assumes nothing.
use Rattle.std.proofs.Common.{◌≡◌, ◌++◌, drop}
use Rattle.doubles.specs.Loop.{run}
use Rattle.lu_solve.specs.Solve.{zero_turn}
use Rattle.lu_solve.proofs.zero_rest.Given as goal

abbrev pub invariant-loop-i : goal.invariant-loop-i
invariant-loop-i l = l.x-items ++ drop l.size l.fn.values ≡ run (zero_turn l.marks) l.i l.fn.values
