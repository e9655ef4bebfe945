-- `fix_kept::passes_41` meets its contract: status, maps, the rest. Assumes nothing.
use mathlib.Core.Path.{◌≡◌, sym, ◌∙◌}
use mathlib.Core.Bool.{true}
use mathlib.Core.List.{[]}
use native.Mathlib.Omega.{arith}
use lib.Dec.{eqb}
use borrow.Author.Rules.{rules}
use borrow.Author.Tests.{eq-eqb, ne_eqb, not-true, not-false}
use Rattle.doubles.specs.Num.{f0}
use Rattle.rules.specs.Plan.{Plan, Memory}
use Rattle.rules.specs.Parts.{plan_of}
use Rattle.state.specs.Memory.{memory_in}
use Rattle.state_maps.specs.Maps.{cells_fine, maps_fine}
use Rattle.fix_rules.specs.Kept.{status_kept}
use Rattle.fix_kept.proofs.Laws.{not_optimal, maps_broken, rest_is, counted_few}
use Rattle.fix_kept.proofs.passes_41.Statement.{statement}
use Rattle.fix_kept.proofs.passes_41.Tie as tie

abbrev p : tie.Start → Plan
p s = plan_of s.args.columns s.args.rows 0 0 f0 [] [] [] s.args.starts.now [] [] [] []

abbrev m : tie.Start → Memory
m s =
    let g = s.args in
    memory_in [] g.numbers.now g.doubles.now g.factor_numbers.now g.factor_coeffs.now

-- what the tests say
optimal : (e : tie.Else-counts-ne0) → let s : tie.Start = search in eqb (status_kept (m s)) 0 ≡ true
optimal e = eq-eqb _ _ e.if-counts-ne0.false

maps_told : (a : tie.After-maps_fine) → let s : tie.Start = search in a.maps_fine.result ≡ maps_fine (p s) (m s)
unfolding maps_fine cells_fine
maps_told a = a.maps_fine.ensures

of_maps : (e : tie.Else-not-maps_fine) → let s : tie.Start = search in maps_fine (p s) (m s) ≡ true
of_maps e = sym (maps_told e.before) ∙ not-false _ e.if-not-maps_fine.false-raw

sub-counts : tie.Need-slice_bounds-counts-count
sub-counts c = search rules

part-counts-start : tie.Need-slice_bounds-counts-start
part-counts-start c = search rules

part-counts-end : tie.Need-slice_bounds-counts-end
part-counts-end c = search rules

shared-slice-read-if1 : tie.Need-bounds-counts-4
shared-slice-read-if1 c = search rules

returns : tie.Need-returns-then-counts-ne0
returns c = let s : tie.Start = search in not_optimal (p s) (m s) (ne_eqb _ _ c.if-counts-ne0.true)

maps-fine-requires : tie.Need-maps_fine-requires
maps-fine-requires c κs = search rules

returns-2 : tie.Need-returns-then-not-maps_fine
returns-2 c =
    let s : tie.Start = search in
    let e1 : tie.Else-counts-ne0 = search in
    maps_broken (p s) (m s) (optimal e1) (sym (maps_told c.before) ∙ not-true _ c.if-not-maps_fine.true-raw)

shared-slice-read-rest-fine : tie.Need-bounds-counts-0
shared-slice-read-rest-fine c = search rules

rest-fine-requires : tie.Need-rest_fine-requires
rest-fine-requires c κs =
    let s : tie.Start = search in
    let e2 : tie.Else-not-maps_fine = search in
    let q = s.requires in
    (q.0, omega (arith, counted_few (p s) (m s) (of_maps e2), q.1), q.3, q.4, q.5, q.6)

returns-3 : tie.Need-returns
returns-3 c =
    let s : tie.Start = search in
    let e1 : tie.Else-counts-ne0 = search in
    let e2 : tie.Else-not-maps_fine = search in
    c.rest_fine.ensures ∙ rest_is (p s) (m s) (optimal e1) (of_maps e2)

pub passes_41_spec : {M : Type 1} → statement M
passes_41_spec =
    tie.close
    (tie.spec
    sub-counts
    part-counts-start
    part-counts-end
    shared-slice-read-if1
    returns
    maps-fine-requires
    returns-2
    shared-slice-read-rest-fine
    rest-fine-requires
    returns-3)
