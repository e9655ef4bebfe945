-- `basis_solves::solve` meets its contract: the factor, then the etas. Assumes nothing.
use borrow.Author.Rules.{rules}
use mathlib.Core.Path.{sym, ap, ◌∙◌, subst}
use Rattle.doubles.specs.Limits.{places}
use Rattle.sparse.specs.Scattered.{Good}
use Rattle.rules.specs.Basis.{solve_etas, solve}
use Rattle.basis_solves.proofs.Laws.{good_factor_solve}
use Rattle.basis_solves.proofs.solve.Statement.{statement}
use Rattle.basis_solves.proofs.solve.Tie as tie

factor-solve-requires : tie.Need-factor_solve-c-requires
factor-solve-requires c κs = search rules

solve-etas-requires : tie.Need-solve_etas-requires
solve-etas-requires c κs =
    let s : tie.Start = search in
    let d : tie.After-factor_solve-c = search in (
      subst (Good places) (sym (d.factor_solve-c.ensures 0)) (good_factor_solve _ s.requires.0 _ s.requires.1.0),
      s.requires.1.1,
    )

returns : tie.Need-returns
unfolding solve
returns c k =
    let d : tie.After-factor_solve-c = search in
    let e : tie.After-solve_etas = search in
    e.solve_etas.ensures ∙ ap (solve_etas _ _) (d.factor_solve-c.ensures k)

pub solve_spec : {M : Type 1} → statement M
solve_spec = tie.close (tie.spec factor-solve-requires solve-etas-requires returns)
