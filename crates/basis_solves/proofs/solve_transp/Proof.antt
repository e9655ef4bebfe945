-- `basis_solves::solve_transp` meets its contract: the etas, then the factor. Assumes nothing.
use mathlib.Core.Path.{sym, ap, ◌∙◌, subst}
use Rattle.rules.specs.Basis.{factor_solve_transp, solve_transp}
use Rattle.rules.specs.Invariant.{Vector}
use Rattle.basis_solves.proofs.solve_transp.Statement.{statement}
use Rattle.basis_solves.proofs.solve_transp.Tie as tie

solve-etas-transp-requires : tie.Need-solve_etas_transp-c-requires
solve-etas-transp-requires c κs = let s : tie.Start = search in (s.requires.start.good, s.requires.etas)

factor-solve-transp-requires : tie.Need-factor_solve_transp-requires
factor-solve-transp-requires c κs =
    let s : tie.Start = search in
    let d : tie.After-solve_etas_transp-c = search in
    (s.requires.factor, subst (Vector _) (sym d.solve_etas_transp-c.ensures) s.requires.between)

returns : tie.Need-returns
unfolding solve_transp
returns c k =
    let d : tie.After-solve_etas_transp-c = search in
    let e : tie.After-factor_solve_transp = search in
    e.factor_solve_transp.ensures k ∙ ap (factor_solve_transp _ _) d.solve_etas_transp-c.ensures

pub solve_transp_spec : {M : Type 1} → statement M
solve_transp_spec = tie.close (tie.spec solve-etas-transp-requires factor-solve-transp-requires returns)
