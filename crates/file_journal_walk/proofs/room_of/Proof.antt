-- `file_journal_walk::room_of` meets its contract. Assumes nothing.
use native.Mathlib.Omega.{arith}
use Rattle.file_journal_walk.proofs.Laws.{no_room, room_is, whole_few}
use borrow.Author.Rules.{rules}
use Rattle.file_journal_walk.proofs.room_of.Statement.{statement}
use Rattle.file_journal_walk.proofs.room_of.Tie as tie

whole-blocks-requires : tie.Need-whole_blocks-blocks-requires
whole-blocks-requires c κs = search rules

returns : tie.Need-returns-then-blocks-eq0
returns c = no_room c.args.journal.now _ c.whole_blocks-blocks.ensures c.if-blocks-eq0.true

sub-result : tie.Need-overflow_sub-result
sub-result c = search rules

mul-result : tie.Need-overflow_mul-result
mul-result c = omega (arith, whole_few c.args.journal.now, c.whole_blocks-blocks.ensures)

returns-2 : tie.Need-returns
returns-2 c = room_is c.args.journal.now _ c.whole_blocks-blocks.ensures

pub room_of_spec : {M : Type 1} → statement M
room_of_spec = tie.close (tie.spec whole-blocks-requires returns sub-result mul-result returns-2)
