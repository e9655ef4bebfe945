-- After p turns the array is the definition's after p turns. Assumes nothing.
use Rattle.std.proofs.Common.{◌≡◌}
use Rattle.doubles.specs.Loop.{run}
use Rattle.lu_walk.specs.Walk.{own_turn}
use Rattle.lu_walk.proofs.own_numbers.Given as goal

abbrev pub invariant-loop-p : goal.invariant-loop-p
invariant-loop-p l = l.at ≡ run own_turn l.p l.initial.at
