-- `file_journal_cells::cells_fine` meets its contract. Assumes nothing.
use Rattle.file_journal_cells.proofs.Laws.{few_cells, fine_is}
use native.Mathlib.Omega.{arith}
use borrow.Author.Rules.{rules}
use Rattle.file_journal_cells.proofs.cells_fine.Statement.{statement}
use Rattle.file_journal_cells.proofs.cells_fine.Tie as tie

returns : tie.Need-returns-then-feed-lt4
returns c = few_cells c.args.feed.now c.if-feed-lt4.true

shared-slice-read-result : tie.Need-bounds-feed-1
shared-slice-read-result c = search rules

shared-slice-read-result-2 : tie.Need-bounds-feed-3
shared-slice-read-result-2 c = search rules

returns-2 : tie.Need-returns
returns-2 c = let s : tie.Start = search in fine_is s.args.feed.now (omega arith)

pub cells_fine_spec : {M : Type 1} → statement M
cells_fine_spec =
    tie.close (tie.spec returns shared-slice-read-result shared-slice-read-result-2 returns-2)
