-- `file_journal_walk::whole_blocks` meets its contract. Assumes nothing.
use native.Mathlib.Omega.{arith}
use Rattle.file_journal_walk.proofs.Laws.{whole_many, whole_all}
use Rattle.file_journal_walk.proofs.whole_blocks.Statement.{statement}
use Rattle.file_journal_walk.proofs.whole_blocks.Tie as tie

returns : tie.Need-returns-then-n-gt65536
returns c = whole_many c.args.journal.now (omega arith)

returns-2 : tie.Need-returns
returns-2 c = whole_all c.args.journal.now (omega arith)

pub whole_blocks_spec : {M : Type 1} → statement M
whole_blocks_spec = tie.close (tie.spec returns returns-2)
