-- `basis_solves::col_coeffs` meets its contract: the column loaded, then solved. Assumes nothing.
use mathlib.Core.Path.{sym, subst, ap, ◌∙◌}
use borrow.Author.Rules.{rules}
use Rattle.rules.specs.Basis.{solve, column_coeffs}
use Rattle.rules.specs.Invariant.{Vector}
use Rattle.basis_columns.proofs.Loading.{column_is}
use Rattle.basis_solves.proofs.col_coeffs.Statement.{statement}
use Rattle.basis_solves.proofs.col_coeffs.Tie as tie

load-column-requires : tie.Need-load_column-c-requires
load-column-requires c κs = search rules

solve-requires : tie.Need-solve-requires
solve-requires c κs =
    let s : tie.Start = search in
    let d : tie.After-load_column-c = search in
    let p = s.requires.1 in
    (p.2, (subst (Vector _) (sym d.load_column-c.ensures) p.0, p.1))

returns : tie.Need-returns
unfolding column_coeffs
returns c P k q r b =
    let d : tie.After-load_column-c = search in
    rw r (c.solve.ensures k ∙ ap (solve _ _ _ _) (d.load_column-c.ensures ∙ column_is _ _ _ _ _ P q b))

pub col_coeffs_spec : {M : Type 1} → statement M
col_coeffs_spec = tie.close (tie.spec load-column-requires solve-requires returns)
