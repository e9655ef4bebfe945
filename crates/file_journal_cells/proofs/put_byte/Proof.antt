-- `file_journal_cells::put_byte` meets its contract. Assumes nothing.
use mathlib.Core.Path.{◌≡◌, refl, ap}
use Prim.Native.Nat.{suc, ◌+◌}
use native.Mathlib.Omega.{arith}
use lib.Dec.{leb}
use Rattle.doubles.specs.Lists.{◌#◌}
use borrow.Author.Rules.{rules}
use Rattle.file_journal_cells.proofs.put_byte.Statement.{statement}
use Rattle.file_journal_cells.proofs.put_byte.Tie as tie

slice-read-at : tie.Need-bounds-feed-1
slice-read-at c = search rules

slice-write-waiting : tie.Need-bounds-waiting-at
slice-write-waiting c = search rules

add-feed : tie.Need-overflow_add-feed
add-feed c = search rules

slice-write-feed : tie.Need-bounds-feed-1-2
slice-write-feed c = search rules

add-result : tie.Need-overflow_add-result
add-result c = search rules

same_length : tie.Need-shape_of-waiting
same_length c = search rules

same-length-2 : tie.Need-shape_of-feed
same-length-2 c = search rules

returns : tie.Need-returns
returns c = let s : tie.Start = search in let e : s.args.feed.now # 1 + 1 ≡ suc (s.args.feed.now # 1) = omega arith in (ap (leb 512) e, refl, refl)

pub put_byte_spec : {M : Type 1} → statement M
put_byte_spec =
    tie.close
    (tie.spec
    slice-read-at
    slice-write-waiting
    add-feed
    slice-write-feed
    add-result
    same_length
    same-length-2
    returns)
