-- `basis_solves::helper` meets its contract: the column listed anew, the row solve, then the rows combined. Assumes nothing.
use mathlib.Core.Path.{ap, ◌∙◌}
use mathlib.Core.List.{[]}
use Rattle.rules.specs.Basis.{combine, solve_transp, helper_of}
use Rattle.basis_rows.proofs.Parts.{fresh_blank}
use Rattle.basis_solves.proofs.Laws.{starts_with, solved_rows}
use Rattle.basis_solves.proofs.helper.Statement.{statement}
use Rattle.basis_solves.proofs.helper.Tie as tie

relist-requires : tie.Need-relist-again-requires
relist-requires c κs = let s : tie.Start = search in (fresh_blank, s.requires.0.1, s.requires.0.2)

solve-transp-requires : tie.Need-solve_transp-c-requires
solve-transp-requires c κs =
    let s : tie.Start = search in
    let u : tie.After-relist-again = search in
    starts_with s.requires.1.solve (u.relist-again.ensures [])

combine-requires : tie.Need-combine-requires
combine-requires c κs =
    let s : tie.Start = search in
    let u : tie.After-relist-again = search in
    let d : tie.After-solve_transp-c = search in
    let w = solved_rows _ _ _ _ _ _ s.requires.1 _
    (d.solve_transp-c.ensures 0 ∙ ap (solve_transp _ _ _ _) (u.relist-again.ensures [])) in
    ((s.requires.0.0, s.requires.1.few, w.0, w.1), s.requires.1.rows)

returns : tie.Need-returns
unfolding helper_of
returns c k m =
    let u : tie.After-relist-again = search in
    let d : tie.After-solve_transp-c = search in
    c.combine.ensures _
    ∙ ap (combine _ _) (d.solve_transp-c.ensures k ∙ ap (solve_transp _ _ _ _) (u.relist-again.ensures m))

pub helper_spec : {M : Type 1} → statement M
helper_spec = tie.close (tie.spec relist-requires solve-transp-requires combine-requires returns)
