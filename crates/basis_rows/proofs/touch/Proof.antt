-- `basis_rows::touch` meets its contract: by the mark and by whether the cell is a place. Assumes nothing.
use native.Mathlib.Omega.{arith}
use borrow.Author.Rules.{rules}
use lib.ListN.{length-set}
use Rattle.basis_rows.proofs.Wide.{touch_told}
use Rattle.basis_rows.proofs.touch.Statement.{statement}
use Rattle.basis_rows.proofs.touch.Tie as tie

element-copy-out-bit : tie.Need-bounds-marks-c
element-copy-out-bit c = search rules

bit-requires : tie.Need-bit-new-requires
bit-requires c κs = search rules

element-write-marks : tie.Need-bounds-marks-c-2
element-write-marks c = search rules

mul-list : tie.Need-offset_bounds-list-count
mul-list c = let s : tie.Start = search in omega (arith, s.requires.2.within)

element-write-list : tie.Need-bounds-list-count
element-write-list c = let s : tie.Start = search in omega (arith, s.requires.2.within)

add-result : tie.Need-overflow_add-result
add-result c =
    let s : tie.Start = search in
    let b : tie.After-bit-new = search in
    omega (arith, s.requires.2.within, b.bit-new.ensures.1)

returns : tie.Need-returns
returns c =
    let s : tie.Start = search in
    let b : tie.After-bit-new = search in
    (touch_told _ s.requires.1 _ _ _ _ s.requires.2 _ s.requires.3 b.bit-new.ensures.0, simp length-set s.requires.3)

pub touch_spec : {M : Type 1} → statement M
touch_spec =
    tie.close
    (tie.spec
    element-copy-out-bit
    bit-requires
    element-write-marks
    mul-list
    element-write-list
    add-result
    returns)
