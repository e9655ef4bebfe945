-- `any::from_costless`: the run with costs 0 halts, or its basis is priced anew. Assumes nothing.
use borrow.Author.Rules.{rules}
use Rattle.rules.specs.Plan.{Plan}
use Rattle.rules.specs.Parts.{plan_of}
use Rattle.any.proofs.Laws.{only_optimal, not_first, halts, prices}
use Rattle.any.proofs.from_costless.Statement.{statement}
use Rattle.any.proofs.from_costless.Tie as tie

abbrev p : tie.Start → Plan
p s =
    let a = s.args in
    plan_of a.columns a.rows a.entries a.budget a.tolerance a.costs.now a.lowers.now
    a.uppers.now a.starts.now a.cols.now a.coeffs.now a.ops.now a.rhs.now

-- the way back
abbrev start : tie.After-solve-told → tie.Start
start c = search

abbrev solved : tie.In-Optimal → tie.After-solve-told
solved c = search

abbrev optimal : tie.After-reprice-answer → tie.In-Optimal
optimal c = search

slice-aggregate-solve : tie.Need-slice_bounds-solve-end
slice-aggregate-solve c = search rules

solve-requires : tie.Need-solve-told-requires
solve-requires c κs = search rules

enum-known-told : tie.Need-enum_known-told
enum-known-told c = search rules

same_length : tie.Need-shape_of-values-in_default
same_length c = search rules

same-length-2 : tie.Need-shape_of-numbers-in_default
same-length-2 c = search rules

same-length-3 : tie.Need-shape_of-doubles-in_default
same-length-3 c = search rules

same-length-4 : tie.Need-shape_of-factor_numbers-in_default
same-length-4 c = search rules

same-length-5 : tie.Need-shape_of-factor_coeffs-in_default
same-length-5 c = search rules

returns : tie.Need-returns-in_default
returns c =
    let r : tie.After-solve-told = search in
    let s = start r in
    let x = r.solve-told.new in
    halts (p s) r.solve-told.result x.values x.numbers x.doubles x.factor_numbers x.factor_coeffs r.solve-told.ensures
    (λ q. not_first (rw (only_optimal _ q) at c.in_default.in_default-own.keys2))

reprice-requires : tie.Need-reprice-answer-requires
reprice-requires c κs = search rules

same-length-6 : tie.Need-shape_of-values
same-length-6 c = search rules

same-length-7 : tie.Need-shape_of-numbers
same-length-7 c = search rules

same-length-8 : tie.Need-shape_of-doubles
same-length-8 c = search rules

same-length-9 : tie.Need-shape_of-factor_numbers
same-length-9 c = search rules

same-length-10 : tie.Need-shape_of-factor_coeffs
same-length-10 c = search rules

returns-2 : tie.Need-returns
returns-2 c =
    let u : tie.After-reprice-answer = search in
    let k = optimal u in
    let r = solved k in
    let s = start r in
    let x = r.solve-told.new in
    let y = u.reprice-answer.new in
    prices (p s) r.solve-told.result x.values x.numbers x.doubles x.factor_numbers x.factor_coeffs r.solve-told.ensures
    k.in-Optimal.is u.reprice-answer.result y.values y.numbers y.doubles y.factor_numbers y.factor_coeffs
    u.reprice-answer.ensures

pub from_costless_spec : {M : Type 1} → statement M
from_costless_spec =
    tie.close
    (tie.spec
    slice-aggregate-solve
    solve-requires
    enum-known-told
    same_length
    same-length-2
    same-length-3
    same-length-4
    same-length-5
    returns
    reprice-requires
    same-length-6
    same-length-7
    same-length-8
    same-length-9
    same-length-10
    returns-2)
