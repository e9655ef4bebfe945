-- The measure of the walk is the numbers left below (lower) or above the place's own; after k turns the state is the
-- definition's after k turns. Assumes nothing.
use Rattle.std.proofs.Common.{◌≡◌}
use Rattle.doubles.specs.Lists.{◌#◌}
use Rattle.doubles.specs.Loop.{run}
use Rattle.lu_walk.specs.Walk.{mapped, graph_in, state, kid_turn, left_by}
use Rattle.lu_walk.proofs.+visit.Given as goal

abbrev pub decreases-visit : goal.decreases-visit
decreases-visit l = left_by l.lower l.bound (l.at.now # l.place)

abbrev pub invariant-loop-k : goal.invariant-loop-k
invariant-loop-k l =
    let g = graph_in (mapped l.lower l.size l.at l.bound l.starts l.rows) in
    state l.marks l.done l.n ≡ run (kid_turn g l.place) l.k (state l.initial.marks l.initial.done l.initial.n)
