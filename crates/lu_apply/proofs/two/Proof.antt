-- `lu_apply::two` meets its contract: one solve after the other. Assumes nothing.
use mathlib.Core.Path.{refl, sym, ap, ◌∙◌, subst}
use mathlib.Core.Bool.{false, not}
use lib.ListN.{length}
use Rattle.lu_walk.specs.Walk.{shape}
use Rattle.lu_solve.specs.Solve.{Out, tri, Distinct}
use Rattle.lu_solve.proofs.Laws.{numbers_kept}
use Rattle.lu_factor_rules.specs.Solves.{second}
use Rattle.lu_apply.proofs.Laws.{distinct_sparse, length_sparse}
use borrow.Author.Rules.{rules}
use Rattle.lu_apply.proofs.two.Statement.{statement}
use Rattle.lu_apply.proofs.two.Tie as tie

sparse-requires : tie.Need-sparse-n-requires
sparse-requires c κs = search rules

sparse-requires-2 : tie.Need-sparse-requires
sparse-requires-2 c κs =
    let s : tie.Start = search in
    let a : tie.After-sparse-n = search in
    let g = s.args in
    let u = shape false g.m g.starts2.now g.rows2.now in (
      numbers_kept s.requires.1.0 (ap (λ (o : Out). length o.values) a.sparse-n.ensures ∙ length_sparse s.requires.0
          s.requires.1.1),
      subst (λ (o : Out). Distinct u o.list o.count) (sym a.sparse-n.ensures)
          (distinct_sparse s.requires.0 s.requires.1.1 u refl),
    )

returns : tie.Need-returns
returns c =
    let s : tie.Start = search in
    let a : tie.After-sparse-n = search in
    let b : tie.After-sparse = search in
    let g = s.args in
    b.sparse.ensures ∙ ap (second (tri false g.m g.starts2.now g.rows2.now g.vals2.now
    (not g.first_has_diag) g.diag.now)) a.sparse-n.ensures

pub two_spec : {M : Type 1} → statement M
two_spec = tie.close (tie.spec sparse-requires sparse-requires-2 returns)
