-- `basis_factor::column` meets its contract. Assumes nothing.
use mathlib.Core.Path.{sym, subst}
use Rattle.sparse.specs.Scattered.{Sv}
use Rattle.lu_factor_rules.specs.Ready.{Judgeable}
use Rattle.lu_factor_rules.specs.Counted.{parts_of}
use Rattle.lu_factor_rules.proofs.Laws.{column_made}
use Rattle.basis_factor.proofs.column.Statement.{statement}
use Rattle.basis_factor.proofs.column.Tie as tie

solve-column-requires : tie.Need-solve_column-c-requires
solve-column-requires c κs = let s : tie.Start = search in (s.requires.lower, s.requires.vector)

judge-requires : tie.Need-judge-requires
judge-requires c κs =
    let s : tie.Start = search in
    let g = s.args in
    let d : tie.After-solve_column-c = search in
    subst (λ (u : Sv). Judgeable g.number.now g.i u.vals u.pat.list u.pat.count
    (parts_of g.lrows.now g.lvals.now g.urows.now g.uvals.now g.from))
    (sym d.solve_column-c.ensures) s.requires.judgeable

returns : tie.Need-returns
returns c =
    let d : tie.After-solve_column-c = search in
    let j : tie.After-judge = search in
    column_made _ _ _ _ _ _ d.solve_column-c.ensures j.judge.ensures

pub column_spec : {M : Type 1} → statement M
column_spec = tie.close (tie.spec solve-column-requires judge-requires returns)
