-- `file_journal_push::add_entry` meets its contract. Assumes nothing.
use mathlib.Core.Path.{sym, ap, ◌∙◌}
use mathlib.Core.List.{List}
use Prim.Native.Nat.{ℕ, ◌+◌, ◌*◌}
use native.Mathlib.Omega.{arith}
use lib.ListN.{length, take, drop, set, length-set}
use lib.Seq.{length-sets}
use Rattle.file_rules.specs.Block.{block}
use Rattle.file_journal_rules.specs.File.{entry_bytes}
use Rattle.file_journal_push.proofs.Laws.{added, added_length}
use borrow.Author.Rules.{rules}
use Rattle.file_journal_push.proofs.add_entry.Statement.{statement}
use Rattle.file_journal_push.proofs.add_entry.Tie as tie

mul-put-entry : tie.Need-overflow_mul-c
mul-put-entry c = search rules

add-put-entry : tie.Need-overflow_add-c
add-put-entry c = search rules

put-entry-requires : tie.Need-put_entry-requires
put-entry-requires c κs = search rules

add-b : tie.Need-overflow_add-b
add-b c = search rules

cast-b : tie.Need-overflow_cast-b
cast-b c = search rules

slice-write-b : tie.Need-bounds-b-3
slice-write-b c = search rules

mul-write-block : tie.Need-overflow_mul-c-2
mul-write-block c = search rules

add-write-block : tie.Need-overflow_add-c-2
add-write-block c = search rules

write-block-requires : tie.Need-write_block-requires
write-block-requires c κs = (simp length-set (ap length c.put_entry.ensures ∙ length-sets c.args.b.now (4 + 22 * c.args.c) (entry_bytes c.args.e) ∙ c.requires.0), omega (arith, c.requires))

same_length : tie.Need-shape_of-b
same_length c = ap length (c.write_block.ensures ∙ ap (λ (l : List ℕ). block 11 c.args.place (take (23 + 22 * c.args.c) (drop 3 (set l 3 (c.args.c + 1))))) c.put_entry.ensures ∙ ap (block 11 c.args.place) (added c.args.b.now c.args.c c.args.e c.requires.0 c.requires.1)) ∙ added_length c.args.b.now c.args.place c.args.c c.args.e c.requires.1 ∙ sym c.requires.0

returns : tie.Need-returns
returns c = c.write_block.ensures ∙ ap (λ (l : List ℕ). block 11 c.args.place (take (23 + 22 * c.args.c) (drop 3 (set l 3 (c.args.c + 1))))) c.put_entry.ensures ∙ ap (block 11 c.args.place) (added c.args.b.now c.args.c c.args.e c.requires.0 c.requires.1)

pub add_entry_spec : {M : Type 1} → statement M
add_entry_spec =
    tie.close
    (tie.spec
    mul-put-entry
    add-put-entry
    put-entry-requires
    add-b
    cast-b
    slice-write-b
    mul-write-block
    add-write-block
    write-block-requires
    same_length
    returns)
