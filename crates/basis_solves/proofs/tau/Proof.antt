-- `basis_solves::tau` meets its contract: the row solve's result listed anew, then solved. Assumes nothing.
use borrow.Author.Rules.{rules}
use mathlib.Core.Path.{sym, subst, ap, ◌∙◌}
use mathlib.Core.List.{[]}
use Rattle.rules.specs.Basis.{solve, tau_of}
use Rattle.rules.specs.Invariant.{Vector}
use Rattle.basis_solves.proofs.tau.Statement.{statement}
use Rattle.basis_solves.proofs.tau.Tie as tie

relist-requires : tie.Need-relist-listed-requires
relist-requires c κs = search rules

solve-requires : tie.Need-solve-requires
solve-requires c κs =
    let s : tie.Start = search in
    let u : tie.After-relist-listed = search in
    let p = s.requires.1 in
    (p.2, (subst (Vector _) (sym (u.relist-listed.ensures [])) p.0, p.1))

returns : tie.Need-returns
unfolding tau_of
returns c P k b e =
    let u : tie.After-relist-listed = search in
    rw e (c.solve.ensures k ∙ ap (solve _ _ _ _) (u.relist-listed.ensures b))

pub tau_spec : {M : Type 1} → statement M
tau_spec = tie.close (tie.spec relist-requires solve-requires returns)
