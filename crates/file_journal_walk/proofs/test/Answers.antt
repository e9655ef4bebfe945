-- `file_journal_walk::test` meets its contract. Assumes nothing.
use Rattle.std.proofs.Common.{◌∙◌, arith}
use Rattle.file_journal_walk.proofs.Laws.{whole_in, whole_few, refused_here, ends_here, goes_on, test_start, test_none}
use Rattle.file_journal_walk.proofs.test.Goals as goal

pub loop-place-init : goal.loop-place-init
loop-place-init c = (omega arith, test_start c.args.journal.now _ c.whole_blocks-blocks.ensures)

pub overflow_mul-start : goal.overflow_mul-start
overflow_mul-start c = omega (arith, whole_in c.args.journal.now, whole_few c.args.journal.now, c.whole_blocks-blocks.ensures)

pub overflow_add-end : goal.overflow_add-end
overflow_add-end c = omega (arith, whole_in c.args.journal.now, whole_few c.args.journal.now, c.whole_blocks-blocks.ensures)

pub overflow_mul-only : goal.overflow_mul-only
overflow_mul-only c = omega (arith, whole_in c.args.journal.now, whole_few c.args.journal.now, c.whole_blocks-blocks.ensures)

pub slice_bounds-check_journal_block-end : goal.slice_bounds-check_journal_block-end
slice_bounds-check_journal_block-end c = omega (arith, whole_in c.args.journal.now, whole_few c.args.journal.now, c.whole_blocks-blocks.ensures)

pub bounds-journal-start : goal.bounds-journal-start
bounds-journal-start c = omega (arith, whole_in c.args.journal.now, whole_few c.args.journal.now, c.whole_blocks-blocks.ensures)

pub overflow_add-start : goal.overflow_add-start
overflow_add-start c = omega (arith, whole_in c.args.journal.now, whole_few c.args.journal.now, c.whole_blocks-blocks.ensures)

pub bounds-journal-start-in-loop-place : goal.bounds-journal-start-in-loop-place
bounds-journal-start-in-loop-place c = omega (arith, whole_in c.args.journal.now, whole_few c.args.journal.now, c.whole_blocks-blocks.ensures)

pub overflow_add-n : goal.overflow_add-n
overflow_add-n c = omega (arith, whole_in c.args.journal.now, whole_few c.args.journal.now, c.whole_blocks-blocks.ensures, c.size_of-n.ensures.1)

pub returns-then-refusal-ne0 : goal.returns-then-refusal-ne0
returns-then-refusal-ne0 c = refused_here c.args.journal.now c.whole_blocks-blocks.result c.loop-place.place c.loop-place.n (omega arith) _ c.check_journal_block-refusal.ensures c.if-refusal-ne0.true ∙ c.loop-place.invariant.1

pub returns-then-journal-start : goal.returns-then-journal-start
returns-then-journal-start c = ends_here c.args.journal.now c.whole_blocks-blocks.result c.loop-place.place c.loop-place.n (omega arith) _ c.check_journal_block-refusal.ensures c.if-refusal-ne0.false c.if-journal-start.true ∙ c.loop-place.invariant.1

pub loop-place-preserved : goal.loop-place-preserved
loop-place-preserved c = (omega (arith, c.size_of-n.ensures.1), goes_on c.args.journal.now c.whole_blocks-blocks.result c.loop-place.place c.loop-place.n (omega arith) _ c.check_journal_block-refusal.ensures c.if-refusal-ne0.false c.if-journal-start.false _ c.size_of-n.ensures.0 ∙ c.loop-place.invariant.1)

pub returns : goal.returns
returns c = test_none c.args.journal.now c.whole_blocks-blocks.result c.loop-place.place c.loop-place.n (omega arith) ∙ c.loop-place.invariant.1
