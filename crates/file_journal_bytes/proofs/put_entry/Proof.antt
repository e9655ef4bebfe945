-- `file_journal_bytes::put_entry` meets its contract. Assumes nothing.
use mathlib.Core.Path.{◌≡◌, ap, ap₂, ◌∙◌}
use mathlib.Core.List.{List}
use Prim.Native.Nat.{ℕ, ◌+◌}
use native.Mathlib.Omega.{arith}
use lib.ListN.{length, set, length-set}
use lib.Seq.{sets}
use Rattle.sheet_terms.proofs.Machine.{result}
use Rattle.file_rules.specs.Bytes.{little, word_of}
use Rattle.file_journal_bytes.proofs.Laws.{with_row, with_column_holds, with_old, with_new, row_long, column_long, old_long, new_long, put_is}
use borrow.Author.Rules.{rules}
use Rattle.file_journal_bytes.proofs.put_entry.Statement.{statement}
use Rattle.file_journal_bytes.proofs.put_entry.Tie as tie

is_row : (c : tie.After-put_little) → c.put_little.new.out ≡ with_row c.args.out.now c.args.at c.args.n
is_row c = c.put_little.ensures

is_column : (c : tie.After-put_little-2) → c.put_little-2.new.out ≡ with_column_holds c.args.out.now c.args.at c.args.n
is_column c = c.put_little-2.ensures ∙ ap (λ (l : List ℕ). sets l (c.args.at + 3) (little 2 c.args.n.column)) (is_row (c.before.before.before.before))

is_old : (c : tie.After-put_little-3) → c.put_little-3.new.out ≡ with_old c.args.out.now c.args.at c.args.n
is_old c = c.put_little-3.ensures ∙ ap₂ (λ (l : List ℕ) (w : ℕ). sets l (c.args.at + 5) (little 8 w)) (is_column (c.before.before.before.before.before.before)) (c.word_of.ensures ∙ ap word_of (result c.args.n.old c.struct_told-1.given.1.1.1.0.1))

is_new : (c : tie.After-put_little-4) → c.put_little-4.new.out ≡ with_new c.args.out.now c.args.at c.args.n
is_new c = c.put_little-4.ensures ∙ ap₂ (λ (l : List ℕ) (w : ℕ). sets l (c.args.at + 13) (little 8 w)) (is_old (c.before.before.before.before.before.before)) (c.word_of-2.ensures ∙ ap word_of (result c.args.n.new c.struct_told-2-1.given.1.1.1.1.0.1))

add-last : tie.Need-overflow_add-last
add-last c = search rules

cast-out : tie.Need-overflow_cast-out
cast-out c = search rules

slice-write-out : tie.Need-bounds-out-at
slice-write-out c = search rules

add-put-little : tie.Need-overflow_add-at
add-put-little c = search rules

put-little-requires : tie.Need-put_little-requires
put-little-requires c κs = simp length-set (omega (arith, c.requires))

add-put-little-2 : tie.Need-overflow_add-at-2
add-put-little-2 c = search rules

put-little-requires-2 : tie.Need-put_little-requires-2
put-little-requires-2 c κs = rw (is_row (c.before.before.before)) (omega (arith, c.requires, row_long c.args.out.now c.args.at c.args.n))

add-put-little-3 : tie.Need-overflow_add-at-3
add-put-little-3 c = search rules

word-of-requires : tie.Need-word_of-requires
word-of-requires c κs = search rules

put-little-requires-3 : tie.Need-put_little-requires-3
put-little-requires-3 c κs = rw (is_column (c.before.before.before.before.before)) (omega (arith, c.requires, column_long c.args.out.now c.args.at c.args.n))

add-put-little-4 : tie.Need-overflow_add-at-4
add-put-little-4 c = search rules

word-of-requires-2 : tie.Need-word_of-requires-2
word-of-requires-2 c κs = search rules

put-little-requires-4 : tie.Need-put_little-requires-4
put-little-requires-4 c κs = rw (is_old (c.before.before.before.before.before)) (omega (arith, c.requires, old_long c.args.out.now c.args.at c.args.n))

cast-out-2 : tie.Need-overflow_cast-out-2
cast-out-2 c = search rules

slice-write-out-2 : tie.Need-bounds-out-last
slice-write-out-2 c = rw (is_new (c.before.before.before)) (omega (arith, c.requires, new_long c.args.out.now c.args.at c.args.n))

same_length : tie.Need-shape_of-out
same_length c = length-set c.put_little-4.new.out _ _ ∙ ap length (is_new (c.before.before.before)) ∙ new_long c.args.out.now c.args.at c.args.n

returns : tie.Need-returns
returns c = ap (λ (l : List ℕ). set l (c.args.at + 21) c.args.n.before) (is_new (c.before.before.before)) ∙ put_is c.args.out.now c.args.at c.args.n

pub put_entry_spec : {M : Type 1} → statement M
put_entry_spec =
    tie.close
    (tie.spec
    add-last
    cast-out
    slice-write-out
    add-put-little
    put-little-requires
    add-put-little-2
    put-little-requires-2
    add-put-little-3
    word-of-requires
    put-little-requires-3
    add-put-little-4
    word-of-requires-2
    put-little-requires-4
    cast-out-2
    slice-write-out-2
    same_length
    returns)
