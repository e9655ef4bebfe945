-- The turns that are left give the definition's vector, and the vector is in order. Assumes nothing.
use Rattle.std.proofs.Common.{◌≡◌}
use Rattle.doubles.specs.Limits.{places}
use Rattle.doubles.specs.Loop.{down}
use Rattle.sparse.specs.Scattered.{sv, Good}
use Rattle.rules.specs.Parts.{etas_of}
use Rattle.rules.specs.Basis.{eta_turn_transp, solve_etas_transp}
use Rattle.basis_etas.proofs.solve_etas_transp.Given as goal

abbrev pub invariant-loop-k : goal.invariant-loop-k
invariant-loop-k l =
    Good places (sv l.values l.marks l.list l.c)
    × (down (eta_turn_transp (etas_of l.leaving l.starts l.rows l.coeffs)) l.k (sv l.values l.marks l.list l.c) ≡ solve_etas_transp (etas_of l.leaving l.starts l.rows l.coeffs) l.n (sv l.fn.values l.fn.marks l.fn.list l.fn.count))
