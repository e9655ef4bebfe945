-- After k turns the vector is the definition's after k turns. Assumes nothing.
use Rattle.std.proofs.Common.{◌≡◌, length}
use Rattle.doubles.specs.Limits.{vars}
use Rattle.doubles.specs.Loop.{run}
use Rattle.rules.specs.Basis.{add_turn}
use Rattle.basis_rows.specs.Wide.{narrow}
use Rattle.basis_rows.proofs.add_entries.Given as goal

abbrev pub invariant-loop-k : goal.invariant-loop-k
invariant-loop-k l =
    (narrow l.n l.values l.marks l.list l.c ≡ run (add_turn l.n l.var_states l.cols l.coeffs l.y) l.k (narrow l.n l.fn.values l.fn.marks l.fn.list l.fn.count))
    × (length l.list ≡ vars)
