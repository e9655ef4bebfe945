-- `file_journal_push::pop` meets its contract. Assumes nothing.
use Rattle.file_journal_push.proofs.Laws.{popped_is}
use borrow.Author.Rules.{rules}
use Rattle.file_journal_push.proofs.pop.Statement.{statement}
use Rattle.file_journal_push.proofs.pop.Tie as tie

mul-start : tie.Need-overflow_mul-start
mul-start c = search rules

add-end : tie.Need-overflow_add-end
add-end c = search rules

sub-cut-block : tie.Need-slice_bounds-cut_block-count
sub-cut-block c = search rules

part-cut-block-start : tie.Need-slice_bounds-cut_block-start
part-cut-block-start c = search rules

part-cut-block-end : tie.Need-slice_bounds-cut_block-end
part-cut-block-end c = search rules

cut-block-requires : tie.Need-cut_block-requires
cut-block-requires c κs = search rules

same_length : tie.Need-shape_of-journal
same_length c = search rules

returns : tie.Need-returns
returns c = popped_is c.args.journal.now c.args.m _ c.requires c.cut_block.ensures

pub pop_spec : {M : Type 1} → statement M
pop_spec =
    tie.close
    (tie.spec
    mul-start
    add-end
    sub-cut-block
    part-cut-block-start
    part-cut-block-end
    cut-block-requires
    same_length
    returns)
