-- `sparse::touch` meets its contract. The append fits: where a place is not marked, fewer are listed than there are. Assumes nothing.
use native.Mathlib.Omega.{arith}
use borrow.Author.Rules.{rules}
use Rattle.sparse.specs.Scattered.{touched}
use Rattle.sparse.proofs.Laws.{wf_room}
use Rattle.sparse.proofs.touch.Statement.{statement}
use Rattle.sparse.proofs.touch.Tie as tie

element-copy-out-if1 : tie.Need-bounds-marks-i
element-copy-out-if1 c = search rules

returns : tie.Need-returns-then-marks-i
unfolding touched
returns c = rw c.if-marks-i.true

element-write-marks : tie.Need-bounds-marks-i-2
element-write-marks c = search rules

mul-list : tie.Need-offset_bounds-list-count
mul-list c = search rules

element-write-list : tie.Need-bounds-list-count
element-write-list c =
    let s : tie.Start = search in
    omega (arith, wf_room _ s.requires.1 _ s.requires.0 c.if-marks-i.false)

add-result : tie.Need-overflow_add-result
add-result c = search rules

returns-2 : tie.Need-returns
unfolding touched
returns-2 c = rw c.if-marks-i.false

pub touch_spec : {M : Type 1} → statement M
touch_spec =
    tie.close
    (tie.spec
    element-copy-out-if1
    returns
    element-write-marks
    mul-list
    element-write-list
    add-result
    returns-2)
