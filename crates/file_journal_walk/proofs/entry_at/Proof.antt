-- `file_journal_walk::entry_at` meets its contract. Assumes nothing.
use mathlib.Core.Path.{◌∙◌}
use Rattle.file_journal_walk.proofs.Laws.{entry_is}
use borrow.Author.Rules.{rules}
use Rattle.file_journal_walk.proofs.entry_at.Statement.{statement}
use Rattle.file_journal_walk.proofs.entry_at.Tie as tie

mul-start : tie.Need-overflow_mul-start
mul-start c = search rules

add-end : tie.Need-overflow_add-end
add-end c = search rules

mul_at : tie.Need-overflow_mul-at
mul_at c = search rules

add_at : tie.Need-overflow_add-at
add_at c = search rules

sub-entry-from : tie.Need-slice_bounds-entry_from-count
sub-entry-from c = search rules

part-entry-from-start : tie.Need-slice_bounds-entry_from-start
part-entry-from-start c = search rules

part-entry-from-end : tie.Need-slice_bounds-entry_from-end
part-entry-from-end c = search rules

entry-from-requires : tie.Need-entry_from-requires
entry-from-requires c κs = search rules

returns : tie.Need-returns
returns c = c.entry_from.ensures ∙ entry_is c.args.journal.now c.args.i

pub entry_at_spec : {M : Type 1} → statement M
entry_at_spec =
    tie.close
    (tie.spec
    mul-start
    add-end
    mul_at
    add_at
    sub-entry-from
    part-entry-from-start
    part-entry-from-end
    entry-from-requires
    returns)
