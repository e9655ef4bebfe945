-- `file_journal_cells::feed_fine` meets its contract. Assumes nothing.
use Rattle.file_journal_cells.proofs.Laws.{short_memory, long_memory_holds}
use native.Mathlib.Omega.{arith}
use borrow.Author.Rules.{rules}
use Rattle.file_journal_cells.proofs.feed_fine.Statement.{statement}
use Rattle.file_journal_cells.proofs.feed_fine.Tie as tie

returns : tie.Need-returns-then-waiting-lt512
returns c = let s : tie.Start = search in short_memory s.args.waiting.now s.args.feed.now (omega arith)

cells-fine-requires : tie.Need-cells_fine-requires
cells-fine-requires c κs = search rules

returns-2 : tie.Need-returns
returns-2 c = let s : tie.Start = search in long_memory_holds s.args.waiting.now s.args.feed.now c.cells_fine.result (omega arith) c.cells_fine.ensures

pub feed_fine_spec : {M : Type 1} → statement M
feed_fine_spec = tie.close (tie.spec returns cells-fine-requires returns-2)
