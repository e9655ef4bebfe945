-- At the entry k the values are the definition's after as many turns as entries are done. Assumes nothing.
use Rattle.std.proofs.Common.{◌≡◌, ◌-◌}
use Rattle.doubles.specs.Lists.{◌#◌}
use Rattle.doubles.specs.Loop.{run}
use Rattle.lu_solve.specs.Solve.{tri, off_turn}
use Rattle.lu_solve.proofs.process_col.Given as goal

abbrev pub invariant-loop-k : goal.invariant-loop-k
invariant-loop-k l =
    let t = tri l.lower l.size l.starts l.rows l.vals l.has_diag l.diag in
    l.values ≡ run (off_turn t l.col l.x) (l.k - l.starts # l.col) l.initial.values
