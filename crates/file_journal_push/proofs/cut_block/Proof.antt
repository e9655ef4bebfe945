-- `file_journal_push::cut_block` meets its contract. Assumes nothing.
use mathlib.Core.Path.{sym, ap, ◌∙◌}
use lib.ListN.{length}
use Rattle.file_journal_rules.specs.Lent.{shorter}
use Rattle.file_journal_push.proofs.Laws.{cut, shorter_length}
use borrow.Author.Rules.{rules}
use Rattle.file_journal_push.proofs.cut_block.Statement.{statement}
use Rattle.file_journal_push.proofs.cut_block.Tie as tie

write-block-requires : tie.Need-write_block-requires
write-block-requires c κs = search rules

same_length : tie.Need-shape_of-b-then-c-eq0
same_length c = search rules

returns : tie.Need-returns-then-c-eq0
unfolding shorter
returns c = c.write_block.ensures ∙ rw c.if-c-eq0.true

cast-b : tie.Need-overflow_cast-b
cast-b c = search rules

slice-write-b : tie.Need-bounds-b-3
slice-write-b c = search rules

mul-write-block : tie.Need-overflow_mul-c
mul-write-block c = search rules

add-write-block : tie.Need-overflow_add-c
add-write-block c = search rules

write-block-requires-2 : tie.Need-write_block-requires-2
write-block-requires-2 c κs = search rules

same-length-2 : tie.Need-shape_of-b
same-length-2 c = ap length (c.write_block-2.ensures ∙ cut c.args.b.now c.args.place c.args.c c.requires.0 c.if-c-eq0.false) ∙ shorter_length c.args.c c.args.place c.args.b.now c.requires.1 ∙ sym c.requires.0

returns-2 : tie.Need-returns
returns-2 c = c.write_block-2.ensures ∙ cut c.args.b.now c.args.place c.args.c c.requires.0 c.if-c-eq0.false

pub cut_block_spec : {M : Type 1} → statement M
cut_block_spec =
    tie.close
    (tie.spec
    write-block-requires
    same_length
    returns
    cast-b
    slice-write-b
    mul-write-block
    add-write-block
    write-block-requires-2
    same-length-2
    returns-2)
