-- `basis_solves::factor_solve_transp` meets its contract: the packed factor, where there is one. Assumes nothing.
use mathlib.Core.Path.{refl}
use Rattle.rules.specs.Basis.{factor_solve_transp}
use Rattle.basis_solves.proofs.Laws.{in_order}
use Rattle.basis_solves.proofs.factor_solve_transp.Statement.{statement}
use Rattle.basis_solves.proofs.factor_solve_transp.Tie as tie

solve-transp-requires : tie.Need-solve_transp-requires
solve-transp-requires c κs =
    let s : tie.Start = search in
    let t : tie.Then-factored = search in
    let f = s.requires.0 in
    ((f.numbers_long, f.coeffs_long), (f.solid_transposed t.if-factored.true, in_order s.requires.1))

returns : tie.Need-returns-then-factored
unfolding factor_solve_transp
returns c k = let t : tie.Then-factored = search in rw t.if-factored.true c.solve_transp.ensures

returns-2 : tie.Need-returns
unfolding factor_solve_transp
returns-2 c k = rw c.if-factored.false refl

pub factor_solve_transp_spec : {M : Type 1} → statement M
factor_solve_transp_spec = tie.close (tie.spec solve-transp-requires returns returns-2)
