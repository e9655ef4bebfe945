-- After k turns the vector is the definition's after k turns. Assumes nothing.
use Rattle.std.proofs.Common.{◌≡◌, []}
use Rattle.doubles.specs.Loop.{run}
use Rattle.sparse.specs.Scattered.{sv, blank, put_at, listed, listed_val}
use Rattle.sparse.proofs.relist.Given as goal

abbrev pub invariant-loop-r : goal.invariant-loop-r
invariant-loop-r l =
    let s = sv l.from [] l.from_list l.from_count in
    sv l.values l.marks l.list l.c ≡ run (λ k t. put_at t (listed s k) (listed_val s k)) l.r-index blank
