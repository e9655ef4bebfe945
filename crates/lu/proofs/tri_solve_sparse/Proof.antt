-- `lu::tri_solve_sparse` meets its contract: each answer by the tests on the way. Assumes nothing.
use borrow.Author.Rules.{rules}
use mathlib.Core.Path.{◌≡◌, refl, sym, ap, ◌∙◌}
use mathlib.Core.Bool.{Bool, true, ◌&&◌}
use lib.ListN.{length}
use borrow.Author.Tests.{not-true, not-false, lt-leb, le-leb}
use Rattle.lu_solve.specs.Solve.{tri}
use Rattle.lu_gate.specs.Gate.{ok_triangle, ok_numbers, ok_held, ok_list}
use Rattle.lu_gate.proofs.Laws.{Told, told, numbers_told, distinct_told}
use Rattle.lu.specs.Result.{solved, tri_solve_sparse}
use Rattle.lu.proofs.tri_solve_sparse.Statement.{statement}
use Rattle.lu.proofs.tri_solve_sparse.Tie as tie

-- the tests on the way
abbrev first : tie.Else-list-size → tie.Else-not-triangle_ok
first b = search

abbrev second : tie.Else-list-listed → tie.Else-list-size
second d = search

abbrev third : tie.Else-not-numbers-held → tie.Else-list-listed
third f = search

abbrev fourth : tie.Else-not-named → tie.Else-not-numbers-held
fourth h = search

abbrev entry : tie.Else-not-triangle_ok → tie.Start
entry a = search

both_as : {a b x y z : Bool} → a ≡ x → b ≡ y → a && b ≡ z → x && y ≡ z
both_as e f g = rw (← e, ← f) g

ok_triangle_holds : (a : tie.Else-not-triangle_ok) → let g = (entry a).args in ok_triangle (tri g.lower g.size g.starts.now g.rows.now g.vals.now g.has_diag g.diag.now) g.entries (length g.values.now) ≡ true
ok_triangle_holds a = sym a.triangle_ok.ensures ∙ not-false _ a.if-not-triangle_ok.false-raw

passed : (a : tie.Else-not-triangle_ok) → let g = (entry a).args in Told (tri g.lower g.size g.starts.now g.rows.now g.vals.now g.has_diag g.diag.now) g.entries (length g.values.now)
passed a = told _ _ _ (ok_triangle_holds a)

ok_finite : (f : tie.Else-not-numbers-held) → let g = (entry (first (second (third f)))).args in ok_numbers g.size g.entries g.vals.now g.has_diag g.diag.now && ok_held g.size g.list.now g.listed g.values.now ≡ true
ok_finite f =
    let n : tie.After-numbers_ok-numbers = search in
    let h : tie.After-listed_ok-held = search in
    both_as n.numbers_ok-numbers.ensures h.listed_ok-held.ensures (not-false _ f.if-not-numbers-held.false-raw)

ok_list_holds : (h : tie.Else-not-named) → let g = (entry (first (second (third (fourth h))))).args in ok_list g.size g.list.now g.listed ≡ true
ok_list_holds h = let l : tie.After-list_ok-named = search in sym l.list_ok-named.ensures ∙ not-false _ h.if-not-named.false-raw

triangle-ok-requires : tie.Need-triangle_ok-requires
triangle-ok-requires c κs = search rules

returns : tie.Need-returns-then-not-triangle_ok
unfolding tri_solve_sparse
returns c = rw (sym c.triangle_ok.ensures ∙ not-true _ c.if-not-triangle_ok.true-raw) refl

returns-2 : tie.Need-returns-then-list-size
unfolding tri_solve_sparse
returns-2 c = let a : tie.Else-not-triangle_ok = search in rw (ok_triangle_holds a, lt-leb _ _ c.if-list-size.true) refl

returns-3 : tie.Need-returns-then-list-listed
unfolding tri_solve_sparse
returns-3 c = let b : tie.Else-list-size = search in rw (ok_triangle_holds (first b), le-leb _ _ b.if-list-size.false, lt-leb _ _ c.if-list-listed.true) refl

numbers-ok-requires : tie.Need-numbers_ok-numbers-requires
numbers-ok-requires c κs = let d : tie.Else-list-listed = search in let p = passed (first (second d)) in (p.sizes.vals_long, p.sizes.diag_long)

listed-ok-requires : tie.Need-listed_ok-held-requires
listed-ok-requires c κs = let d : tie.Else-list-listed = search in ((passed (first (second d))).sizes.values_long, d.if-list-listed.false)

list-ok-requires : tie.Need-list_ok-named-requires
list-ok-requires c κs = let d : tie.Else-list-listed = search in ((passed (first (second d))).sizes.small, d.if-list-listed.false)

same_length : tie.Need-shape_of-list-then-not-numbers-held
same_length c = search rules

same-length-2 : tie.Need-shape_of-values-then-not-numbers-held
same-length-2 c = search rules

returns-4 : tie.Need-returns-then-not-numbers-held
unfolding tri_solve_sparse
returns-4 c =
    let d : tie.Else-list-listed = search in
    let n : tie.After-numbers_ok-numbers = search in
    let h : tie.After-listed_ok-held = search in
    let b = second d in
    rw (ok_triangle_holds (first b), le-leb _ _ b.if-list-size.false, le-leb _ _ d.if-list-listed.false, both_as n.numbers_ok-numbers.ensures h.listed_ok-held.ensures (not-true _ c.if-not-numbers-held.true-raw)) refl

same-length-3 : tie.Need-shape_of-list-then-not-named
same-length-3 c = search rules

same-length-4 : tie.Need-shape_of-values-then-not-named
same-length-4 c = search rules

returns-5 : tie.Need-returns-then-not-named
unfolding tri_solve_sparse
returns-5 c =
    let f : tie.Else-not-numbers-held = search in
    let l : tie.After-list_ok-named = search in
    let d = third f in
    let b = second d in
    rw (ok_triangle_holds (first b), le-leb _ _ b.if-list-size.false, le-leb _ _ d.if-list-listed.false, ok_finite f, sym l.list_ok-named.ensures ∙ not-true _ c.if-not-named.true-raw) refl

sparse-requires : tie.Need-sparse-n-requires
sparse-requires c κs =
    let h : tie.Else-not-named = search in
    let d = third (fourth h) in
    let p = passed (first (second d)) in
    (numbers_told _ _ _ p, distinct_told _ _ _ p.sizes.small (second d).if-list-size.false d.if-list-listed.false (ok_list_holds h))

same-length-5 : tie.Need-shape_of-list
same-length-5 c = search rules

same-length-6 : tie.Need-shape_of-values
same-length-6 c = search rules

returns-6 : tie.Need-returns
unfolding tri_solve_sparse
returns-6 c =
    let h : tie.Else-not-named = search in
    let s : tie.After-sparse-n = search in
    let f = fourth h in
    let d = third f in
    let b = second d in
    rw (ok_triangle_holds (first b), le-leb _ _ b.if-list-size.false, le-leb _ _ d.if-list-listed.false, ok_finite f, ok_list_holds h) (ap solved s.sparse-n.ensures)

pub tri_solve_sparse_spec : {M : Type 1} → statement M
tri_solve_sparse_spec =
    tie.close
    (tie.spec
    triangle-ok-requires
    returns
    returns-2
    returns-3
    numbers-ok-requires
    listed-ok-requires
    list-ok-requires
    same_length
    same-length-2
    returns-4
    same-length-3
    same-length-4
    returns-5
    sparse-requires
    same-length-5
    same-length-6
    returns-6)
