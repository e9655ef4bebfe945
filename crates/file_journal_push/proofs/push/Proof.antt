-- `file_journal_push::push` meets its contract. Assumes nothing.
use native.Mathlib.Omega.{arith}
use Rattle.file_journal_push.proofs.Laws.{two_blocks, same_there, pushed_first, pushed_more}
use borrow.Author.Rules.{rules}
use Rattle.file_journal_push.proofs.push.Statement.{statement}
use Rattle.file_journal_push.proofs.push.Tie as tie

mul-start : tie.Need-overflow_mul-start
mul-start c = omega (arith, two_blocks c.args.journal.now c.args.n c.requires.0)

add-end : tie.Need-overflow_add-end
add-end c = omega (arith, two_blocks c.args.journal.now c.args.n c.requires.0)

sub-add-entry : tie.Need-slice_bounds-add_entry-count
sub-add-entry c = search rules

part-add-entry-start : tie.Need-slice_bounds-add_entry-start
part-add-entry-start c = search rules

part-add-entry-end : tie.Need-slice_bounds-add_entry-end
part-add-entry-end c = omega (arith, two_blocks c.args.journal.now c.args.n c.requires.0)

add-entry-requires : tie.Need-add_entry-requires
add-entry-requires c κs = search rules

add-next : tie.Need-overflow_add-next
add-next c = omega (arith, two_blocks c.args.journal.now c.args.n c.requires.0)

sub-write-block : tie.Need-slice_bounds-write_block-count
sub-write-block c = search rules

part-write-block-start : tie.Need-slice_bounds-write_block-start
part-write-block-start c = search rules

part-write-block-end : tie.Need-slice_bounds-write_block-end
part-write-block-end c = omega (arith, two_blocks c.args.journal.now c.args.n c.requires.0, same_there c.args.journal.now c.args.n c.args.e c.requires.0 _ c.add_entry.ensures)

add-write-block : tie.Need-overflow_add-k
add-write-block c = search rules

write-block-requires : tie.Need-write_block-requires
write-block-requires c κs = search rules

same_length : tie.Need-shape_of-journal-then-c-eq0
same_length c = search rules

returns : tie.Need-returns-then-c-eq0
returns c = pushed_first c.args.journal.now c.args.n c.args.e c.requires.0 _ _ c.if-c-eq0.true c.add_entry.ensures c.write_block.ensures

same-length-2 : tie.Need-shape_of-journal-else-c-eq0
same-length-2 c = search rules

returns-2 : tie.Need-returns-else-c-eq0
returns-2 c = pushed_more c.args.journal.now c.args.n c.args.e c.requires.0 _ c.if-c-eq0.false c.add_entry.ensures

pub push_spec : {M : Type 1} → statement M
push_spec =
    tie.close
    (tie.spec
    mul-start
    add-end
    sub-add-entry
    part-add-entry-start
    part-add-entry-end
    add-entry-requires
    add-next
    sub-write-block
    part-write-block-start
    part-write-block-end
    add-write-block
    write-block-requires
    same_length
    returns
    same-length-2
    returns-2)
