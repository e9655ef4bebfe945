-- `file_journal_cells::close` meets its contract. Assumes nothing.
use mathlib.Core.Path.{◌≡◌, sym, ◌∙◌}
use mathlib.Core.Bool.{true}
use Prim.Native.Nat.{◌≤◌}
use native.Mathlib.Omega.{arith}
use lib.ListN.{length}
use borrow.Author.Tests.{not-true, not-false}
use Rattle.file_journal_rules.specs.Feed.{cells_fine}
use Rattle.file_journal_cells.proofs.Laws.{long_enough, closes_bad, closes_refused, closes_waiting, closes_open, closes_ended}
use borrow.Author.Rules.{rules}
use Rattle.file_journal_cells.proofs.close.Statement.{statement}
use Rattle.file_journal_cells.proofs.close.Tie as tie

fine : (c : tie.Else-not-cells_fine) → cells_fine c.args.feed.now ≡ true
fine c = sym c.cells_fine.ensures ∙ not-false _ c.if-not-cells_fine.false-raw

four : (c : tie.Else-not-cells_fine) → 4 ≤ length c.args.feed.now
four c = long_enough c.args.feed.now (fine c)

cells-fine-requires : tie.Need-cells_fine-requires
cells-fine-requires c κs = search rules

returns : tie.Need-returns-then-not-cells_fine
returns c = closes_bad c.args.feed.now (sym c.cells_fine.ensures ∙ not-true _ c.if-not-cells_fine.true-raw)

shared-slice-read-if2 : tie.Need-bounds-feed-2
shared-slice-read-if2 c = let t : tie.Else-not-cells_fine = search in omega (arith, four t)

shared-slice-read-result : tie.Need-bounds-feed-2-then-feed-ne0
shared-slice-read-result c = let t : tie.Else-not-cells_fine = search in omega (arith, four t)

returns-2 : tie.Need-returns-then-feed-ne0
returns-2 c = closes_refused _ (fine c.before.before.before) c.if-feed-ne0.true

shared-slice-read-if3 : tie.Need-bounds-feed-1
shared-slice-read-if3 c = let t : tie.Else-not-cells_fine = search in omega (arith, four t)

returns-3 : tie.Need-returns-then-feed-ne0-2
returns-3 c = closes_waiting _ (fine c.before.before.before.before) c.if-feed-ne0.false c.if-feed-ne0-2.true

shared-slice-read-if4 : tie.Need-bounds-feed-3
shared-slice-read-if4 c = let t : tie.Else-not-cells_fine = search in omega (arith, four t)

returns-4 : tie.Need-returns-then-feed-lt2
returns-4 c = closes_open _ (fine c.before.before.before.before.before.before) c.if-feed-ne0.false c.if-feed-ne0-2.false c.if-feed-lt2.true

returns-5 : tie.Need-returns
returns-5 c = closes_ended _ (fine c.before.before.before.before.before.before) c.if-feed-ne0.false c.if-feed-ne0-2.false (omega arith)

pub close_spec : {M : Type 1} → statement M
close_spec =
    tie.close
    (tie.spec
    cells-fine-requires
    returns
    shared-slice-read-if2
    shared-slice-read-result
    returns-2
    shared-slice-read-if3
    returns-3
    shared-slice-read-if4
    returns-4
    returns-5)
