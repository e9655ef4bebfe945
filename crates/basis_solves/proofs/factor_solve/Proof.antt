-- `basis_solves::factor_solve` meets its contract: the packed factor, where there is one. Assumes nothing.
use mathlib.Core.Path.{refl}
use Rattle.rules.specs.Basis.{factor_solve}
use Rattle.basis_solves.proofs.Laws.{in_order}
use Rattle.basis_solves.proofs.factor_solve.Statement.{statement}
use Rattle.basis_solves.proofs.factor_solve.Tie as tie

solve-requires : tie.Need-solve-requires
solve-requires c κs =
    let s : tie.Start = search in
    let t : tie.Then-factored = search in
    let f = s.requires.0 in
    ((f.numbers_long, f.coeffs_long), (f.solid t.if-factored.true, in_order s.requires.1))

returns : tie.Need-returns-then-factored
unfolding factor_solve
returns c k = let t : tie.Then-factored = search in rw t.if-factored.true c.solve.ensures

returns-2 : tie.Need-returns
unfolding factor_solve
returns-2 c k = rw c.if-factored.false refl

pub factor_solve_spec : {M : Type 1} → statement M
factor_solve_spec = tie.close (tie.spec solve-requires returns returns-2)
