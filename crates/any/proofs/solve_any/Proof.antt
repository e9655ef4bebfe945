-- `any::solve_any`: the answer of the first run, or 7 and what follows it. Assumes nothing.
use mathlib.Core.Path.{sym, ◌∙◌}
use borrow.Author.Rules.{rules}
use Rattle.rules.specs.Plan.{Plan}
use Rattle.rules.specs.Parts.{plan_of}
use Rattle.any.proofs.Laws.{direct, behind}
use Rattle.any.proofs.solve_any.Statement.{statement}
use Rattle.any.proofs.solve_any.Tie as tie

abbrev p : tie.Start → Plan
p s =
    let a = s.args in
    plan_of a.columns a.rows a.entries a.budget a.tolerance a.costs.now a.lowers.now
    a.uppers.now a.starts.now a.cols.now a.coeffs.now a.ops.now a.rhs.now

-- the way back
abbrev start : tie.After-solve-told → tie.Start
start c = search

abbrev solved : tie.After-number_of → tie.After-solve-told
solved c = search

abbrev numbered : tie.After-from_costless → tie.After-number_of
numbered c = search

abbrev on-7 : tie.After-from_costless → tie.Else-number_of-ne7
on-7 c = search

solve-requires : tie.Need-solve-told-requires
solve-requires c κs = search rules

number-of-requires : tie.Need-number_of-requires
number-of-requires c κs = search rules

same_length : tie.Need-shape_of-values-then-number_of-ne7
same_length c = search rules

same-length-2 : tie.Need-shape_of-numbers-then-number_of-ne7
same-length-2 c = search rules

same-length-3 : tie.Need-shape_of-doubles-then-number_of-ne7
same-length-3 c = search rules

same-length-4 : tie.Need-shape_of-factor_numbers-then-number_of-ne7
same-length-4 c = search rules

same-length-5 : tie.Need-shape_of-factor_coeffs-then-number_of-ne7
same-length-5 c = search rules

returns : tie.Need-returns-then-number_of-ne7
returns c =
    let n : tie.After-number_of = search in
    let r = solved n in
    let s = start r in
    let x = r.solve-told.new in
    direct (p s) r.solve-told.result x.values x.numbers x.doubles x.factor_numbers x.factor_coeffs _
    r.solve-told.ensures
    (λ q. c.if-number_of-ne7.true (n.number_of.ensures ∙ q))

from-costless-requires : tie.Need-from_costless-requires
from-costless-requires c κs = search rules

same-length-6 : tie.Need-shape_of-values
same-length-6 c = search rules

same-length-7 : tie.Need-shape_of-numbers
same-length-7 c = search rules

same-length-8 : tie.Need-shape_of-doubles
same-length-8 c = search rules

same-length-9 : tie.Need-shape_of-factor_numbers
same-length-9 c = search rules

same-length-10 : tie.Need-shape_of-factor_coeffs
same-length-10 c = search rules

returns-2 : tie.Need-returns
returns-2 c =
    let u : tie.After-from_costless = search in
    let n = numbered u in
    let r = solved n in
    let s = start r in
    let x = r.solve-told.new in
    behind (p s) r.solve-told.result x.values x.numbers x.doubles x.factor_numbers x.factor_coeffs _
    r.solve-told.ensures
    (sym n.number_of.ensures ∙ (on-7 u).if-number_of-ne7.false) u.from_costless.ensures

pub solve_any_spec : {M : Type 1} → statement M
solve_any_spec =
    tie.close
    (tie.spec
    solve-requires
    number-of-requires
    same_length
    same-length-2
    same-length-3
    same-length-4
    same-length-5
    returns
    from-costless-requires
    same-length-6
    same-length-7
    same-length-8
    same-length-9
    same-length-10
    returns-2)
