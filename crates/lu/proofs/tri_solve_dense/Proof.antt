-- `lu::tri_solve_dense` meets its contract: each answer by the tests on the way. Assumes nothing.
use borrow.Author.Rules.{rules}
use mathlib.Core.Path.{◌≡◌, refl, sym, ap, ◌∙◌}
use mathlib.Core.Bool.{true}
use lib.ListN.{length}
use borrow.Author.Tests.{not-true, not-false}
use Rattle.lu_solve.specs.Solve.{tri, out}
use Rattle.lu_gate.specs.Gate.{ok_triangle, ok_numbers, finite_at}
use Rattle.lu_gate.proofs.Laws.{Told, told, numbers_told}
use Rattle.lu.specs.Result.{solved, tri_solve_dense}
use mathlib.Core.List.{List, []}
use lib.Ieee.{Float}
use Rattle.doubles.specs.Loop.{all}
use Rattle.lu.proofs.tri_solve_dense.Statement.{statement}
use Rattle.lu.proofs.tri_solve_dense.Tie as tie

-- the tests on the way
abbrev first : tie.Else-not-numbers_ok → tie.Else-not-triangle_ok
first b = search

abbrev second : tie.Else-not-all_finite → tie.Else-not-numbers_ok
second d = search

abbrev entry : tie.Else-not-triangle_ok → tie.Start
entry a = search

ok_triangle_holds : (a : tie.Else-not-triangle_ok) → let g = (entry a).args in ok_triangle (tri g.lower g.size g.starts.now g.rows.now g.vals.now g.has_diag g.diag.now) g.entries (length g.values.now) ≡ true
ok_triangle_holds a = sym a.triangle_ok.ensures ∙ not-false _ a.if-not-triangle_ok.false-raw

passed : (a : tie.Else-not-triangle_ok) → let g = (entry a).args in Told (tri g.lower g.size g.starts.now g.rows.now g.vals.now g.has_diag g.diag.now) g.entries (length g.values.now)
passed a = told _ _ _ (ok_triangle_holds a)

ok_numbers_holds : (b : tie.Else-not-numbers_ok) → let g = (entry (first b)).args in ok_numbers g.size g.entries g.vals.now g.has_diag g.diag.now ≡ true
ok_numbers_holds b = sym b.numbers_ok.ensures ∙ not-false _ b.if-not-numbers_ok.false-raw

ok_values : (d : tie.Else-not-all_finite) → let g = (entry (first (second d))).args in all g.size (finite_at g.values.now) ≡ true
ok_values d = sym d.all_finite.ensures ∙ not-false _ d.if-not-all_finite.false-raw

triangle-ok-requires : tie.Need-triangle_ok-requires
triangle-ok-requires c κs = search rules

returns : tie.Need-returns-then-not-triangle_ok
unfolding tri_solve_dense
returns c = rw (sym c.triangle_ok.ensures ∙ not-true _ c.if-not-triangle_ok.true-raw) refl

numbers-ok-requires : tie.Need-numbers_ok-requires
numbers-ok-requires c κs = let a : tie.Else-not-triangle_ok = search in let p = passed a in (p.sizes.vals_long, p.sizes.diag_long)

returns-2 : tie.Need-returns-then-not-numbers_ok
unfolding tri_solve_dense
returns-2 c = let a : tie.Else-not-triangle_ok = search in rw (ok_triangle_holds a, sym c.numbers_ok.ensures ∙ not-true _ c.if-not-numbers_ok.true-raw) refl

all-finite-requires : tie.Need-all_finite-requires
all-finite-requires c κs = let b : tie.Else-not-numbers_ok = search in (passed (first b)).sizes.values_long

same_length : tie.Need-shape_of-values-then-not-all_finite
same_length c = search rules

returns-3 : tie.Need-returns-then-not-all_finite
unfolding tri_solve_dense
returns-3 c = let b : tie.Else-not-numbers_ok = search in rw (ok_triangle_holds (first b), ok_numbers_holds b, sym c.all_finite.ensures ∙ not-true _ c.if-not-all_finite.true-raw) refl

dense-requires : tie.Need-dense-requires
dense-requires c κs = let d : tie.Else-not-all_finite = search in numbers_told _ _ _ (passed (first (second d)))

same-length-2 : tie.Need-shape_of-values
same-length-2 c = search rules

returns-4 : tie.Need-returns
unfolding tri_solve_dense
returns-4 c =
    let d : tie.Else-not-all_finite = search in
    let s : tie.After-dense = search in
    let b = second d in
    rw (ok_triangle_holds (first b), ok_numbers_holds b, ok_values d) (ap (λ (x : List Float). solved (out x [] (entry (first b)).args.size)) s.dense.ensures)

pub tri_solve_dense_spec : {M : Type 1} → statement M
tri_solve_dense_spec =
    tie.close
    (tie.spec
    triangle-ok-requires
    returns
    numbers-ok-requires
    returns-2
    all-finite-requires
    same_length
    returns-3
    dense-requires
    same-length-2
    returns-4)
