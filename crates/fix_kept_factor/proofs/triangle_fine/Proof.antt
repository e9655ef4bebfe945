-- `fix_kept_factor::triangle_fine` meets its contract: starts, entries, rows. Assumes nothing.
use mathlib.Core.Path.{◌≡◌, sym, ◌∙◌}
use mathlib.Core.Bool.{true}
use native.Mathlib.Omega.{arith}
use borrow.Author.Rules.{rules}
use borrow.Author.Tests.{lt-leb, le-leb, not-true, not-false}
use Rattle.doubles.specs.Lists.{◌#◌}
use Rattle.lu_gate.specs.Gate.{ok_starts}
use Rattle.lu_gate.proofs.Laws.{starts_told, readable}
use Rattle.fix_rules.specs.Kept.{triangle_fine}
use Rattle.fix_kept_factor.proofs.triangle_fine.Statement.{statement}
use Rattle.fix_kept_factor.proofs.triangle_fine.Tie as tie

abbrev entry : tie.Else-not-starts_ok → tie.Start
entry e = search

started : (e : tie.Else-not-starts_ok) → let g = (entry e).args in ok_starts g.m (g.starts.now # g.m) g.starts.now ≡ true
started e = sym e.starts_ok.ensures ∙ not-false _ e.if-not-starts_ok.false-raw

mul-entries : tie.Need-offset_bounds-starts-m
mul-entries c = search rules

shared-slice-read-entries : tie.Need-bounds-starts-m
shared-slice-read-entries c = search rules

starts-ok-requires : tie.Need-starts_ok-requires
starts-ok-requires c κs = search rules

returns : tie.Need-returns-then-not-starts_ok
unfolding triangle_fine
returns c = rw (sym c.starts_ok.ensures ∙ not-true _ c.if-not-starts_ok.true-raw)

returns-2 : tie.Need-returns-then-entries-gt-MAX_TRI_ENTRIES
unfolding triangle_fine
returns-2 c = let e : tie.Else-not-starts_ok = search in rw (started e, lt-leb _ _ c.if-entries-gt-MAX_TRI_ENTRIES.true)

rows-ok-requires : tie.Need-rows_ok-requires
rows-ok-requires c κs =
    let e : tie.Else-not-starts_ok = search in
    let f : tie.Else-entries-gt-MAX_TRI_ENTRIES = search in
    let p = (entry e).requires in
    readable p.0 p.1 (omega (arith, f.if-entries-gt-MAX_TRI_ENTRIES.false, p.2)) (starts_told _ _ _ (started e))

returns-3 : tie.Need-returns
unfolding triangle_fine
returns-3 c =
    let e : tie.Else-not-starts_ok = search in
    let f : tie.Else-entries-gt-MAX_TRI_ENTRIES = search in
    rw (started e, le-leb _ _ f.if-entries-gt-MAX_TRI_ENTRIES.false) c.rows_ok.ensures

pub triangle_fine_spec : {M : Type 1} → statement M
triangle_fine_spec =
    tie.close
    (tie.spec
    mul-entries
    shared-slice-read-entries
    starts-ok-requires
    returns
    returns-2
    rows-ok-requires
    returns-3)
