-- `fix_kept::store_fine` meets its contract: count, starts, entries, rows. Assumes nothing.
use mathlib.Core.Path.{◌≡◌, sym, ◌∙◌}
use mathlib.Core.Bool.{true}
use lib.Dec.{leb, ltb}
use borrow.Author.Rules.{rules}
use borrow.Author.Tests.{le-leb, lt-leb, not-true, not-false}
use Rattle.doubles.specs.Limits.{eta_columns, eta_entries}
use Rattle.doubles.specs.Loop.{all}
use Rattle.doubles.specs.Lists.{◌#◌}
use Rattle.lu_gate.specs.Gate.{ok_starts}
use Rattle.fix_rules.specs.Kept.{store_fine}
use Rattle.fix_kept.proofs.store_fine.Statement.{statement}
use Rattle.fix_kept.proofs.store_fine.Tie as tie

-- the tests passed so far
few : (e : tie.Else-count-gt-ETA_COLUMNS) → let s : tie.Start = search in leb s.args.count eta_columns ≡ true
few e = le-leb _ _ e.if-count-gt-ETA_COLUMNS.false

started : (e : tie.Else-not-starts_ok) → let s : tie.Start = search in
    ok_starts s.args.count s.args.entries s.args.starts.now ≡ true
started e = sym e.starts_ok.ensures ∙ not-false _ e.if-not-starts_ok.false-raw

fits : (e : tie.Else-entries-gt-ETA_ENTRIES) → let s : tie.Start = search in leb s.args.entries eta_entries ≡ true
fits e = le-leb _ _ e.if-entries-gt-ETA_ENTRIES.false

leaves : (e : tie.Else-not-all_below) → let s : tie.Start = search in
    all s.args.count (λ k. ltb (s.args.leaving.now # k) s.args.m) ≡ true
leaves e = sym e.all_below.ensures ∙ not-false _ e.if-not-all_below.false-raw

returns : tie.Need-returns-then-count-gt-ETA_COLUMNS
unfolding store_fine
returns c = rw (lt-leb _ _ c.if-count-gt-ETA_COLUMNS.true)

starts-ok-requires : tie.Need-starts_ok-requires
starts-ok-requires c κs = search rules

returns-2 : tie.Need-returns-then-not-starts_ok
unfolding store_fine
returns-2 c =
    let e1 : tie.Else-count-gt-ETA_COLUMNS = search in
    rw (few e1, sym c.starts_ok.ensures ∙ not-true _ c.if-not-starts_ok.true-raw)

returns-3 : tie.Need-returns-then-entries-gt-ETA_ENTRIES
unfolding store_fine
returns-3 c =
    let e1 : tie.Else-count-gt-ETA_COLUMNS = search in
    let e2 : tie.Else-not-starts_ok = search in
    rw (few e1, started e2, lt-leb _ _ c.if-entries-gt-ETA_ENTRIES.true)

all-below-requires : tie.Need-all_below-requires
all-below-requires c κs = search rules

returns-4 : tie.Need-returns-then-not-all_below
unfolding store_fine
returns-4 c =
    let e1 : tie.Else-count-gt-ETA_COLUMNS = search in
    let e2 : tie.Else-not-starts_ok = search in
    let e3 : tie.Else-entries-gt-ETA_ENTRIES = search in
    rw (few e1, started e2, fits e3, sym c.all_below.ensures ∙ not-true _ c.if-not-all_below.true-raw)

all-below-requires-2 : tie.Need-all_below-requires-2
all-below-requires-2 c κs = search rules

returns-5 : tie.Need-returns
unfolding store_fine
returns-5 c =
    let e1 : tie.Else-count-gt-ETA_COLUMNS = search in
    let e2 : tie.Else-not-starts_ok = search in
    let e3 : tie.Else-entries-gt-ETA_ENTRIES = search in
    let e4 : tie.Else-not-all_below = search in
    rw (few e1, started e2, fits e3, leaves e4) c.all_below-2.ensures

pub store_fine_spec : {M : Type 1} → statement M
store_fine_spec =
    tie.close
    (tie.spec
    returns
    starts-ok-requires
    returns-2
    returns-3
    all-below-requires
    returns-4
    all-below-requires-2
    returns-5)
