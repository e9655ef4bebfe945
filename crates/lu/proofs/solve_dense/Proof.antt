-- `lu::solve_dense` meets its contract: each answer by the tests on the way, and the two solves one after the other. Assumes nothing.
use borrow.Author.Rules.{rules}
use mathlib.Core.Path.{◌≡◌, refl, sym, ap, ◌∙◌}
use mathlib.Core.Bool.{true, false}
use mathlib.Core.List.{List, []}
use lib.ListN.{length}
use lib.Ieee.{Float}
use borrow.Author.Tests.{not-true, not-false}
use Rattle.doubles.specs.Loop.{all}
use Rattle.lu_solve.specs.Solve.{tri, out, dense}
use Rattle.lu_solve.proofs.Laws.{numbers_kept, length_dense}
use Rattle.lu_gate.specs.Gate.{ok_triangle, ok_numbers, finite_at}
use Rattle.lu_gate.proofs.Laws.{told, numbers_told}
use Rattle.lu.specs.Result.{solved, solve_dense}
use Rattle.lu.proofs.solve_dense.Statement.{statement}
use Rattle.lu.proofs.solve_dense.Tie as tie

-- the tests on the way
abbrev first : tie.Else-not-triangle_ok-2 → tie.Else-not-triangle_ok
first b = search

abbrev second : tie.Else-not-numbers_ok → tie.Else-not-triangle_ok-2
second d = search

abbrev third : tie.Else-not-numbers_ok-2 → tie.Else-not-numbers_ok
third f = search

abbrev fourth : tie.Else-not-all_finite → tie.Else-not-numbers_ok-2
fourth h = search

abbrev entry : tie.Else-not-triangle_ok → tie.Start
entry a = search

ok_lower : (a : tie.Else-not-triangle_ok) → let g = (entry a).args in ok_triangle (tri true g.size g.lower_starts.now g.lower_rows.now g.lower_vals.now g.lower_has_diag g.lower_diag.now) g.lower_entries (length g.values.now) ≡ true
ok_lower a = sym a.triangle_ok.ensures ∙ not-false _ a.if-not-triangle_ok.false-raw

ok_upper : (b : tie.Else-not-triangle_ok-2) → let g = (entry (first b)).args in ok_triangle (tri false g.size g.upper_starts.now g.upper_rows.now g.upper_vals.now g.upper_has_diag g.upper_diag.now) g.upper_entries (length g.values.now) ≡ true
ok_upper b = sym b.triangle_ok-2.ensures ∙ not-false _ b.if-not-triangle_ok-2.false-raw

lower_numbers : (d : tie.Else-not-numbers_ok) → let g = (entry (first (second d))).args in ok_numbers g.size g.lower_entries g.lower_vals.now g.lower_has_diag g.lower_diag.now ≡ true
lower_numbers d = sym d.numbers_ok.ensures ∙ not-false _ d.if-not-numbers_ok.false-raw

upper_numbers : (f : tie.Else-not-numbers_ok-2) → let g = (entry (first (second (third f)))).args in ok_numbers g.size g.upper_entries g.upper_vals.now g.upper_has_diag g.upper_diag.now ≡ true
upper_numbers f = sym f.numbers_ok-2.ensures ∙ not-false _ f.if-not-numbers_ok-2.false-raw

ok_values : (h : tie.Else-not-all_finite) → let g = (entry (first (second (third (fourth h))))).args in all g.size (finite_at g.values.now) ≡ true
ok_values h = sym h.all_finite.ensures ∙ not-false _ h.if-not-all_finite.false-raw

triangle-ok-requires : tie.Need-triangle_ok-requires
triangle-ok-requires c κs = search rules

returns : tie.Need-returns-then-not-triangle_ok
unfolding solve_dense
returns c = rw (sym c.triangle_ok.ensures ∙ not-true _ c.if-not-triangle_ok.true-raw) refl

triangle-ok-requires-2 : tie.Need-triangle_ok-requires-2
triangle-ok-requires-2 c κs = search rules

returns-2 : tie.Need-returns-then-not-triangle_ok-2
unfolding solve_dense
returns-2 c = let a : tie.Else-not-triangle_ok = search in rw (ok_lower a, sym c.triangle_ok-2.ensures ∙ not-true _ c.if-not-triangle_ok-2.true-raw) refl

numbers-ok-requires : tie.Need-numbers_ok-requires
numbers-ok-requires c κs = let b : tie.Else-not-triangle_ok-2 = search in let p = told _ _ _ (ok_lower (first b)) in (p.sizes.vals_long, p.sizes.diag_long)

returns-3 : tie.Need-returns-then-not-numbers_ok
unfolding solve_dense
returns-3 c = let b : tie.Else-not-triangle_ok-2 = search in rw (ok_lower (first b), ok_upper b, sym c.numbers_ok.ensures ∙ not-true _ c.if-not-numbers_ok.true-raw) refl

numbers-ok-requires-2 : tie.Need-numbers_ok-requires-2
numbers-ok-requires-2 c κs = let d : tie.Else-not-numbers_ok = search in let p = told _ _ _ (ok_upper (second d)) in (p.sizes.vals_long, p.sizes.diag_long)

returns-4 : tie.Need-returns-then-not-numbers_ok-2
unfolding solve_dense
returns-4 c = let d : tie.Else-not-numbers_ok = search in let b = second d in rw (ok_lower (first b), ok_upper b, lower_numbers d, sym c.numbers_ok-2.ensures ∙ not-true _ c.if-not-numbers_ok-2.true-raw) refl

all-finite-requires : tie.Need-all_finite-requires
all-finite-requires c κs = let f : tie.Else-not-numbers_ok-2 = search in (told _ _ _ (ok_lower (first (second (third f))))).sizes.values_long

same_length : tie.Need-shape_of-values-then-not-all_finite
same_length c = search rules

returns-5 : tie.Need-returns-then-not-all_finite
unfolding solve_dense
returns-5 c =
    let f : tie.Else-not-numbers_ok-2 = search in
    let d = third f in
    let b = second d in
    rw (ok_lower (first b), ok_upper b, lower_numbers d, upper_numbers f, sym c.all_finite.ensures ∙ not-true _ c.if-not-all_finite.true-raw) refl

dense-requires : tie.Need-dense-requires
dense-requires c κs = let h : tie.Else-not-all_finite = search in numbers_told _ _ _ (told _ _ _ (ok_lower (first (second (third (fourth h))))))

dense-requires-2 : tie.Need-dense-requires-2
dense-requires-2 c κs =
    let h : tie.Else-not-all_finite = search in
    let s : tie.After-dense = search in
    let b = second (third (fourth h)) in
    numbers_kept {v = (entry (first b)).args.values.now} (numbers_told _ _ _ (told _ _ _ (ok_upper b))) (ap length s.dense.ensures ∙ length_dense _ _)

same-length-2 : tie.Need-shape_of-values
same-length-2 c = search rules

returns-6 : tie.Need-returns
unfolding solve_dense
returns-6 c =
    let h : tie.Else-not-all_finite = search in
    let s : tie.After-dense = search in
    let r : tie.After-dense-2 = search in
    let f = fourth h in
    let d = third f in
    let b = second d in
    rw (ok_lower (first b), ok_upper b, lower_numbers d, upper_numbers f, ok_values h)
    (ap (λ (x : List Float). solved (out x [] (entry (first b)).args.size)) (r.dense-2.ensures ∙ ap (dense _) s.dense.ensures))

pub solve_dense_spec : {M : Type 1} → statement M
solve_dense_spec =
    tie.close
    (tie.spec
    triangle-ok-requires
    returns
    triangle-ok-requires-2
    returns-2
    numbers-ok-requires
    returns-3
    numbers-ok-requires-2
    returns-4
    all-finite-requires
    same_length
    returns-5
    dense-requires
    dense-requires-2
    same-length-2
    returns-6)
