-- After i turns the state is the definition's after i turns. Assumes nothing.
use Rattle.std.proofs.Common.{◌≡◌}
use Rattle.doubles.specs.Loop.{run}
use Rattle.lu_walk.specs.Walk.{mapped, state, enter_turn}
use Rattle.lu_walk.proofs.reach_in.Given as goal

abbrev pub invariant-loop-place : goal.invariant-loop-place
invariant-loop-place l =
    let t = mapped l.lower l.size l.at l.bound l.starts l.rows in
    state l.marks l.done l.n ≡ run (enter_turn t l.list) l.place-index (state l.initial.marks l.initial.done 0)
