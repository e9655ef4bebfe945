-- `file_journal_push::begin` meets its contract. Assumes nothing.
use native.Mathlib.Omega.{arith}
use Rattle.file_journal_push.proofs.Laws.{begins_short, begins}
use borrow.Author.Rules.{rules}
use Rattle.file_journal_push.proofs.begin.Statement.{statement}
use Rattle.file_journal_push.proofs.begin.Tie as tie

returns : tie.Need-returns-then-journal-lt512
returns c = begins_short c.args.journal.now (omega arith)

sub-write-block : tie.Need-slice_bounds-write_block-count
sub-write-block c = search rules

part-write-block-start : tie.Need-slice_bounds-write_block-start
part-write-block-start c = search rules

part-write-block-end : tie.Need-slice_bounds-write_block-end
part-write-block-end c = search rules

write-block-requires : tie.Need-write_block-requires
write-block-requires c κs = search rules

same_length : tie.Need-shape_of-journal
same_length c = search rules

returns-2 : tie.Need-returns
returns-2 c = begins c.args.journal.now _ (omega arith) c.write_block.ensures

pub begin_spec : {M : Type 1} → statement M
begin_spec =
    tie.close
    (tie.spec
    returns
    sub-write-block
    part-write-block-start
    part-write-block-end
    write-block-requires
    same_length
    returns-2)
