-- `file_journal_cells::block_says` meets its contract. Assumes nothing.
use native.Mathlib.Omega.{arith}
use Rattle.file_journal_cells.proofs.Laws.{says_stray, says_block}
use borrow.Author.Rules.{rules}
use Rattle.file_journal_cells.proofs.block_says.Statement.{statement}
use Rattle.file_journal_cells.proofs.block_says.Tie as tie

stray-says-requires : tie.Need-stray_says-requires
stray-says-requires c κs = search rules

returns : tie.Need-returns-then-phase-ge2
returns c = let s : tie.Start = search in says_stray s.args.b.now s.requires s.args.phase s.args.place c.stray_says.result (omega arith) c.stray_says.ensures

check-journal-block-requires : tie.Need-check_journal_block-requires
check-journal-block-requires c κs = search rules

returns-2 : tie.Need-returns
returns-2 c = let s : tie.Start = search in says_block s.args.b.now s.requires s.args.phase s.args.place c.check_journal_block.result (omega arith) c.check_journal_block.ensures

pub block_says_spec : {M : Type 1} → statement M
block_says_spec =
    tie.close (tie.spec stray-says-requires returns check-journal-block-requires returns-2)
