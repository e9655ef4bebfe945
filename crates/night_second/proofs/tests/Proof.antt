-- `night_second::tests`: each answer after the tests before it. Assumes nothing.
use mathlib.Core.Path.{◌≡◌, sym, ap, ◌∙◌}
use mathlib.Core.Bool.{true}
use Prim.Native.Nat.{◌+◌, ◌<◌}
use native.Mathlib.Omega.{arith}
use lib.IntN.{nat_abs}
use borrow.Author.Rules.{rules}
use borrow.Author.Tests.{not-true, not-false}
use Rattle.doubles.specs.Limits.{max_rows}
use Rattle.sheet_rules.specs.Sheet.{Plan}
use Rattle.sheet_terms.proofs.Machine.{of_word}
use Rattle.night_rules.specs.Night.{shows_gap, entries_after, first_beyond}
use Rattle.night_second.specs.Costed.{costed}
use Rattle.night_second.proofs.Laws.{entries_most, no_gap, rows_full, entries_full, cost_beyond, found_beyond}
use Rattle.night_second.proofs.Laws.{goes_on, same_beyond, entries_are}
use Rattle.night_second.proofs.tests.Statement.{statement}
use Rattle.night_second.proofs.tests.Tie as tie

abbrev p : tie.Start → Plan
p s = let a = s.args in costed a.rows a.columns a.coefs.now a.costs.now

-- what has passed
shown : (e : tie.Else-not-shows_gap) → let s : tie.Start = search in shows_gap s.args.first.audit ≡ true
shown e = sym e.shows_gap.ensures ∙ not-false _ e.if-not-shows_gap.false-raw

few : (e : tie.Else-rows-ge-MAX_ROWS) → let s : tie.Start = search in s.args.rows < max_rows
few e = omega (arith, e.if-rows-ge-MAX_ROWS.false)

counted : (t : tie.After-entries-costs_too)
    → let s : tie.Start = search in t.entries-some.result + t.entries-costs_too.result ≡ entries_after (p s)
counted t =
    let s : tie.Start = search in
    entries_are s.args.rows s.args.columns s.args.coefs.now s.args.costs.now
    t.entries-some.ensures t.entries-costs_too.ensures

beyond : (t : tie.After-first_beyond-j) → let s : tie.Start = search in t.first_beyond-j.result ≡ first_beyond (p s)
beyond t =
    let s : tie.Start = search in
    t.first_beyond-j.ensures
    ∙ same_beyond s.args.rows s.args.columns s.args.coefs.now s.args.costs.now

in_size : (t : tie.After-size) → let s : tie.Start = search in t.size.result ≡ nat_abs s.args.found
in_size t =
    let s : tie.Start = search in
    t.size.ensures ∙ ap nat_abs (of_word s.ranges.found)

shows-gap-requires : tie.Need-shows_gap-requires
shows-gap-requires c κs = search rules

returns : tie.Need-returns-then-not-shows_gap
returns c =
    let s : tie.Start = search in
    no_gap s.args.first (p s) s.args.found (sym c.shows_gap.ensures ∙ not-true _ c.if-not-shows_gap.true-raw)

returns-2 : tie.Need-returns-then-rows-ge-MAX_ROWS
returns-2 c =
    let s : tie.Start = search in
    let e : tie.Else-not-shows_gap = search in
    rows_full s.args.first (p s) s.args.found (shown e) c.if-rows-ge-MAX_ROWS.true

entries-requires : tie.Need-entries-some-requires
entries-requires c κs = search rules

entries-requires-2 : tie.Need-entries-costs_too-requires
entries-requires-2 c κs = search rules

add-if3 : tie.Need-overflow_add-some
add-if3 c =
    let s : tie.Start = search in
    let h = s.requires in
    record { fits = omega (arith, counted c, entries_most (p s) h.0 h.1) }

returns-3 : tie.Need-returns-then-some-costs_too-gt-MAX_ENTRIES
returns-3 c =
    let s : tie.Start = search in
    let e : tie.Else-not-shows_gap = search in
    let r : tie.Else-rows-ge-MAX_ROWS = search in
    let n : tie.After-entries-costs_too = search in
    entries_full s.args.first (p s) s.args.found (shown e) (few r) (omega (arith, counted n, c.if-some-costs_too-gt-MAX_ENTRIES.true))

first-beyond-requires : tie.Need-first_beyond-j-requires
first-beyond-requires c κs = search rules

returns-4 : tie.Need-returns-then-j-columns
returns-4 c =
    let s : tie.Start = search in
    let e : tie.Else-not-shows_gap = search in
    let r : tie.Else-rows-ge-MAX_ROWS = search in
    let n : tie.After-entries-costs_too = search in
    let u : tie.Else-some-costs_too-gt-MAX_ENTRIES = search in
    let b : tie.After-first_beyond-j = search in
    cost_beyond s.args.first (p s) s.args.found (shown e) (few r) (omega (arith, counted n, u.if-some-costs_too-gt-MAX_ENTRIES.false)) _
    (beyond b) c.if-j-columns.true

size-requires : tie.Need-size-requires
size-requires c κs = search rules

returns-5 : tie.Need-returns-then-size-gt-MAX_RIGHT_SIDE
returns-5 c =
    let s : tie.Start = search in
    let e : tie.Else-not-shows_gap = search in
    let r : tie.Else-rows-ge-MAX_ROWS = search in
    let n : tie.After-entries-costs_too = search in
    let u : tie.Else-some-costs_too-gt-MAX_ENTRIES = search in
    let b : tie.After-first_beyond-j = search in
    let v : tie.Else-j-columns = search in
    let z : tie.After-size = search in
    found_beyond s.args.first (p s) s.args.found (shown e) (few r) (omega (arith, counted n, u.if-some-costs_too-gt-MAX_ENTRIES.false))
    (sym (beyond b) ∙ v.if-j-columns.false) (omega (arith, in_size z, c.if-size-gt-MAX_RIGHT_SIDE.true))

returns-6 : tie.Need-returns
returns-6 c =
    let s : tie.Start = search in
    let e : tie.Else-not-shows_gap = search in
    let r : tie.Else-rows-ge-MAX_ROWS = search in
    let n : tie.After-entries-costs_too = search in
    let u : tie.Else-some-costs_too-gt-MAX_ENTRIES = search in
    let b : tie.After-first_beyond-j = search in
    let v : tie.Else-j-columns = search in
    let z : tie.After-size = search in
    goes_on s.args.first (p s) s.args.found (shown e) (few r) (omega (arith, counted n, u.if-some-costs_too-gt-MAX_ENTRIES.false))
    (sym (beyond b) ∙ v.if-j-columns.false) (omega (arith, in_size z, c.if-size-gt-MAX_RIGHT_SIDE.false))

pub tests_spec : {M : Type 1} → statement M
tests_spec =
    tie.close
    (tie.spec
    shows-gap-requires
    returns
    returns-2
    entries-requires
    entries-requires-2
    add-if3
    returns-3
    first-beyond-requires
    returns-4
    size-requires
    returns-5
    returns-6)
