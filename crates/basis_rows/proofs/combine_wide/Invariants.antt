-- After k turns the vector is the definition's after k turns. Assumes nothing.
use Rattle.std.proofs.Common.{◌≡◌, [], length}
use Rattle.doubles.specs.Limits.{vars}
use Rattle.doubles.specs.Loop.{run}
use Rattle.sparse.specs.Scattered.{sv, blank, listed, listed_val}
use Rattle.rules.specs.Parts.{rowed}
use Rattle.rules.specs.Basis.{add_row}
use Rattle.basis_rows.specs.Wide.{narrow}
use Rattle.basis_rows.proofs.combine_wide.Given as goal

abbrev pub invariant-loop-r : goal.invariant-loop-r
invariant-loop-r l =
    let v = sv l.from [] l.from_list l.from_count in
    (narrow l.n l.values l.marks l.list l.c ≡ run (λ k s. add_row (rowed l.n l.starts l.cols l.coeffs l.kept) l.var_states (listed v k) (listed_val v k) s) l.r-index blank)
    × (length l.list ≡ vars)
