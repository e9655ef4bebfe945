-- `lu_gate::triangle_ok` meets its contract: each return by the tests on the way. Assumes nothing.
use borrow.Author.Rules.{rules}
use mathlib.Core.Path.{◌≡◌, refl, sym, ◌∙◌}
use mathlib.Core.Bool.{true}
use lib.ListN.{length}
use borrow.Author.Tests.{not-true, not-false}
use Rattle.lu_gate.specs.Gate.{ok_sizes, ok_starts, ok_triangle}
use Rattle.lu_gate.proofs.Laws.{Sized, sized, starts_told, readable}
use Rattle.lu_gate.proofs.triangle_ok.Statement.{statement}
use Rattle.lu_gate.proofs.triangle_ok.Tie as tie

abbrev entry : tie.Else-not-sizes_ok → tie.Start
entry a = search

abbrev before : tie.Else-not-starts_ok → tie.Else-not-sizes_ok
before b = search

-- the tests passed so far
ok_sizes_holds : (a : tie.Else-not-sizes_ok) → let g = (entry a).args in
    ok_sizes g.size g.entries (length g.starts.now) (length g.rows.now) (length g.vals.now) g.has_diag (length g.diag.now) g.values ≡ true
ok_sizes_holds a = sym a.sizes_ok.ensures ∙ not-false _ a.if-not-sizes_ok.false-raw

passed : (a : tie.Else-not-sizes_ok) → let g = (entry a).args in
    Sized g.size g.entries (length g.starts.now) (length g.rows.now) (length g.vals.now) g.has_diag (length g.diag.now) g.values
passed a = sized _ _ _ _ _ _ _ _ (ok_sizes_holds a)

ok_starts_holds : (b : tie.Else-not-starts_ok) → let g = (entry (before b)).args in ok_starts g.size g.entries g.starts.now ≡ true
ok_starts_holds b = sym b.starts_ok.ensures ∙ not-false _ b.if-not-starts_ok.false-raw

sizes-ok-requires : tie.Need-sizes_ok-requires
sizes-ok-requires c κs = search rules

returns : tie.Need-returns-then-not-sizes_ok
unfolding ok_triangle
returns c = rw (sym c.sizes_ok.ensures ∙ not-true _ c.if-not-sizes_ok.true-raw) refl

starts-ok-requires : tie.Need-starts_ok-requires
starts-ok-requires c κs = let a : tie.Else-not-sizes_ok = search in (passed a).starts_long

returns-2 : tie.Need-returns-then-not-starts_ok
unfolding ok_triangle
returns-2 c = let a : tie.Else-not-sizes_ok = search in rw (ok_sizes_holds a, sym c.starts_ok.ensures ∙ not-true _ c.if-not-starts_ok.true-raw) refl

rows-ok-requires : tie.Need-rows_ok-requires
rows-ok-requires c κs = let b : tie.Else-not-starts_ok = search in let a = before b in let p = passed a in readable p.small p.starts_long p.rows_long (starts_told _ _ _ (ok_starts_holds b))

returns-3 : tie.Need-returns-then-not-rows_ok
unfolding ok_triangle
returns-3 c = let b : tie.Else-not-starts_ok = search in rw (ok_sizes_holds (before b), ok_starts_holds b, sym c.rows_ok.ensures ∙ not-true _ c.if-not-rows_ok.true-raw) refl

diag-ok-requires : tie.Need-diag_ok-requires
diag-ok-requires c κs = let b : tie.Else-not-starts_ok = search in (passed (before b)).diag_long

returns-4 : tie.Need-returns
unfolding ok_triangle
returns-4 c = let b : tie.Else-not-starts_ok = search in let d : tie.Else-not-rows_ok = search in rw (ok_sizes_holds (before b), ok_starts_holds b, sym d.rows_ok.ensures ∙ not-false _ d.if-not-rows_ok.false-raw) c.diag_ok.ensures

pub triangle_ok_spec : {M : Type 1} → statement M
triangle_ok_spec =
    tie.close
    (tie.spec
    sizes-ok-requires
    returns
    starts-ok-requires
    returns-2
    rows-ok-requires
    returns-3
    diag-ok-requires
    returns-4)
