-- What is left of the finished places makes of the values what all of them make. Assumes nothing.
use Rattle.std.proofs.Common.{◌≡◌}
use Rattle.doubles.specs.Loop.{down}
use Rattle.lu_solve.specs.Solve.{tri, back_turn}
use Rattle.lu_solve.proofs.process_all.Given as goal

abbrev pub invariant-loop-k : goal.invariant-loop-k
invariant-loop-k l =
    let turn = back_turn (tri l.lower l.size l.starts l.rows l.vals l.has_diag l.diag) l.done in
    down turn l.k l.values ≡ down turn l.count l.initial.values
