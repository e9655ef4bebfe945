-- `whole_propose::answer`: the tests, in their order. Assumes nothing.
use mathlib.Core.Path.{◌≡◌, sym, ◌∙◌}
use mathlib.Core.Bool.{true}
use mathlib.Core.List.{[]}
use native.Mathlib.Omega.{arith}
use Rattle.doubles.proofs.Bools.{turned, turned_true, itself}
use Rattle.state.specs.Memory.{memory_in}
use Rattle.state_maps.specs.Maps.{maps_fine}
use Rattle.whole_multipliers.specs.Rows.{rows_of}
use Rattle.whole_propose.specs.Propose.{Lent, lent_of, memory, lent_fine}
use Rattle.whole_propose.proofs.Laws.{same_maps, enough, short, no_run, broken, judged}
use borrow.Author.Rules.{rules}
use Rattle.whole_propose.proofs.answer.Statement.{statement}
use Rattle.whole_propose.proofs.answer.Tie as tie

abbrev l : tie.Start → Lent
l s =
    let a = s.args in
    lent_of a.columns a.rows a.starts.now a.ops.now a.values.now a.numbers.now a.doubles.now
    a.amounts.now a.mults.now

abbrev start : tie.Else-not-lent_fine → tie.Start
start e = search

fine : (e : tie.Else-not-lent_fine) → lent_fine (l (start e)) ≡ true
fine e = sym e.lent_fine.ensures ∙ (turned itself).0 e.if-not-lent_fine.false-raw

maps : (s : tie.Start)
    → maps_fine (l s).plan (memory (l s))
    ≡ maps_fine (rows_of s.args.columns s.args.rows s.args.starts.now [])
    (memory_in [] s.args.numbers.now [] [] [])
maps s =
    same_maps s.args.columns s.args.rows s.args.starts.now s.args.ops.now s.args.values.now
    s.args.numbers.now s.args.doubles.now

lent-fine-requires : tie.Need-lent_fine-requires
lent-fine-requires c κs = search rules

returns : tie.Need-returns-then-not-lent_fine
returns c = let s : tie.Start = search in
    short (l s) (sym c.lent_fine.ensures ∙ (turned_true itself).0 c.if-not-lent_fine.true-raw)

add-if2 : tie.Need-overflow_add-t-12
add-if2 c = search rules

mul-if2 : tie.Need-offset_bounds-numbers
mul-if2 c = search rules

shared-slice-read-if2 : tie.Need-bounds-numbers
shared-slice-read-if2 c = let e : tie.Else-not-lent_fine = search in
    omega (arith, (enough (l (start e)) (fine e)).long)

returns-2 : tie.Need-returns-then-numbers-ne0
returns-2 c = let e : tie.Else-not-lent_fine = search in
    no_run (l (start e)) (fine e) c.if-numbers-ne0.true

maps-fine-requires : tie.Need-maps_fine-requires
maps-fine-requires c κs =
    let e : tie.Else-not-lent_fine = search in
    let g = (enough (l (start e)) (fine e)).long in
    (g.columns_fit, g.rows_fit, g.starts_long, g.numbers_long)

returns-3 : tie.Need-returns-then-not-maps_fine
returns-3 c =
    let e : tie.Else-not-lent_fine = search in
    let z : tie.Else-numbers-ne0 = search in
    broken (l (start e)) (fine e) z.if-numbers-ne0.false
    (maps (start e) ∙ sym c.maps_fine.ensures ∙ (turned_true itself).0 c.if-not-maps_fine.true-raw)

first-not-whole-requires : tie.Need-first_not_whole-requires
first-not-whole-requires c κs =
    let e : tie.Else-not-lent_fine = search in
    let g = enough (l (start e)) (fine e) in
    (g.long, g.values_long)

returns-4 : tie.Need-returns
returns-4 c =
    let e : tie.Else-not-lent_fine = search in
    let z : tie.Else-numbers-ne0 = search in
    let y : tie.Else-not-maps_fine = search in
    c.first_not_whole.ensures
    ∙ judged (l (start e)) (fine e) z.if-numbers-ne0.false
    (maps (start e) ∙ sym y.maps_fine.ensures ∙ (turned itself).0 y.if-not-maps_fine.false-raw)

pub answer_spec : {M : Type 1} → statement M
answer_spec =
    tie.close
    (tie.spec
    lent-fine-requires
    returns
    add-if2
    mul-if2
    shared-slice-read-if2
    returns-2
    maps-fine-requires
    returns-3
    first-not-whole-requires
    returns-4)
