-- `lu_solve::touch` meets its contract. Assumes nothing.
use borrow.Author.Rules.{rules}
use native.Mathlib.Omega.{arith}
use Rattle.sparse.specs.Scattered.{touched}
use Rattle.lu_solve.proofs.touch.Statement.{statement}
use Rattle.lu_solve.proofs.touch.Tie as tie

element-copy-out-if1 : tie.Need-bounds-marks-i
element-copy-out-if1 c = search rules

returns : tie.Need-returns-then-marks-i
unfolding touched
returns c = rw c.if-marks-i.true

element-write-marks : tie.Need-bounds-marks-i-2
element-write-marks c = search rules

mul-list : tie.Need-offset_bounds-list-count
mul-list c = let s : tie.Start = search in let i : tie.Else-marks-i = search in omega (arith, s.requires.room i.if-marks-i.false)

slice-write-list : tie.Need-bounds-list-count
slice-write-list c = let s : tie.Start = search in let i : tie.Else-marks-i = search in omega (arith, s.requires.room i.if-marks-i.false)

add-result : tie.Need-overflow_add-result
add-result c = let s : tie.Start = search in let i : tie.Else-marks-i = search in omega (arith, s.requires.room i.if-marks-i.false)

same_length : tie.Need-shape_of-list
same_length c = search rules

returns-2 : tie.Need-returns
unfolding touched
returns-2 c = rw c.if-marks-i.false

pub touch_spec : {M : Type 1} → statement M
touch_spec =
    tie.close
    (tie.spec
    element-copy-out-if1
    returns
    element-write-marks
    mul-list
    slice-write-list
    add-result
    same_length
    returns-2)
