-- `basis_solves::inv_row` meets its contract: the unit vector, then the row solve. Assumes nothing.
use mathlib.Core.Path.{sym, subst, ap, ◌∙◌}
use Rattle.doubles.specs.Num.{f1}
use Rattle.doubles.specs.Limits.{places}
use Rattle.sparse.specs.Scattered.{Good, Sv, put_at}
use Rattle.sparse.proofs.Laws.{good_blank}
use Rattle.rules.specs.Basis.{solve_transp}
use Rattle.basis_solves.proofs.Laws.{starts_with}
use Rattle.basis_solves.proofs.inv_row.Statement.{statement}
use Rattle.basis_solves.proofs.inv_row.Tie as tie

put-at-requires : tie.Need-put_at-unit-requires
put-at-requires c κs = let s : tie.Start = search in (s.requires.0.1, subst (Good places) (sym s.requires.0.0.fresh) good_blank)

solve-transp-requires : tie.Need-solve_transp-requires
solve-transp-requires c κs =
    let s : tie.Start = search in
    let u : tie.After-put_at-unit = search in
    starts_with s.requires.1 (u.put_at-unit.ensures ∙ ap (λ (v : Sv). put_at v s.args.row f1) s.requires.0.0.fresh)

returns : tie.Need-returns
returns c P k e =
    let s : tie.Start = search in
    let u : tie.After-put_at-unit = search in
    rw e (c.solve_transp.ensures k ∙ ap (solve_transp _ _ _ _) (u.put_at-unit.ensures ∙ ap (λ (v : Sv). put_at v s.args.row f1) s.requires.0.0.fresh))

pub inv_row_spec : {M : Type 1} → statement M
inv_row_spec = tie.close (tie.spec put-at-requires solve-transp-requires returns)
