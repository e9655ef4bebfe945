-- `reprice_numbers::column_sum` meets its contract: a column of the matrix, or a slack's own row. Assumes nothing.
use mathlib.Core.Path.{◌∙◌}
use native.Mathlib.Omega.{arith}
use borrow.Author.Tests.{lt-ltb, le-ltb}
use Rattle.reprice_numbers.specs.Lent.{sum_on}
use Rattle.reprice_numbers.proofs.Laws.{SumRead, sum_read, sum_asks}
use borrow.Author.Rules.{rules}
use Rattle.reprice_numbers.proofs.column_sum.Statement.{statement}
use Rattle.reprice_numbers.proofs.column_sum.Tie as tie

abbrev start : tie.Then-v-n → tie.Start
start t = t.before.before.before.before

-- a column of the matrix can be read
ask : (t : tie.Then-v-n) → let g = (start t).args in SumRead g.cstarts.now g.crows.now g.ccoeffs.now g.v
ask t = sum_read _ _ _ _ _ (start t).requires.1 t.if-v-n.true

mul-a : tie.Need-offset_bounds-cstarts-v
mul-a c = let t : tie.Then-v-n = search in omega (arith, ask t)

shared-slice-read-a : tie.Need-bounds-cstarts-v
shared-slice-read-a c = let t : tie.Then-v-n = search in omega (arith, ask t)

add-b : tie.Need-overflow_add-b
add-b c = search rules

mul-b : tie.Need-offset_bounds-cstarts-v-then-v-n
mul-b c = let t : tie.Then-v-n = search in omega (arith, ask t)

shared-slice-read-b : tie.Need-bounds-cstarts-v-then-v-n
shared-slice-read-b c = let t : tie.Then-v-n = search in omega (arith, ask t)

mul-dot : tie.Need-offset_bounds-crows-a
mul-dot c = let t : tie.Then-v-n = search in omega (arith, ask t)

sub-dot : tie.Need-slice_bounds-dot-count
sub-dot c = let t : tie.Then-v-n = search in omega (arith, ask t)

part-dot-start : tie.Need-slice_bounds-dot-start
part-dot-start c = let t : tie.Then-v-n = search in omega (arith, ask t)

part-dot-end : tie.Need-slice_bounds-dot-end
part-dot-end c = let t : tie.Then-v-n = search in omega (arith, ask t)

mul-dot-2 : tie.Need-offset_bounds-ccoeffs-a
mul-dot-2 c = let t : tie.Then-v-n = search in omega (arith, ask t)

sub-dot-2 : tie.Need-slice_bounds-dot-count-then-v-n
sub-dot-2 c = let t : tie.Then-v-n = search in omega (arith, ask t)

part-dot-start-2 : tie.Need-slice_bounds-dot-start-then-v-n
part-dot-start-2 c = let t : tie.Then-v-n = search in omega (arith, ask t)

part-dot-end-2 : tie.Need-slice_bounds-dot-end-then-v-n
part-dot-end-2 c = let t : tie.Then-v-n = search in omega (arith, ask t)

dot-requires : tie.Need-dot-requires
dot-requires c κs =
    let t : tie.Then-v-n = search in
    let s : tie.Start = search in
    sum_asks _ _ _ _ _ s.args.y.now s.requires.0 s.requires.1 t.if-v-n.true

returns : tie.Need-returns-then-v-n
unfolding sum_on
returns c = let t : tie.Then-v-n = search in c.dot.ensures ∙ rw (lt-ltb _ _ t.if-v-n.true, sum_on)

mul-result : tie.Need-offset_bounds-y-r
mul-result c =
    let t : tie.Else-v-n = search in
    let s : tie.Start = search in
    omega (arith, s.requires.1.own t.if-v-n.false)

element-copy-out-result : tie.Need-bounds-y-r
element-copy-out-result c =
    let t : tie.Else-v-n = search in
    let s : tie.Start = search in
    omega (arith, s.requires.1.own t.if-v-n.false)

returns-2 : tie.Need-returns
unfolding sum_on
returns-2 c = let t : tie.Else-v-n = search in rw (le-ltb _ _ t.if-v-n.false, sum_on)

pub column_sum_spec : {M : Type 1} → statement M
column_sum_spec =
    tie.close
    (tie.spec
    mul-a
    shared-slice-read-a
    add-b
    mul-b
    shared-slice-read-b
    mul-dot
    sub-dot
    part-dot-start
    part-dot-end
    mul-dot-2
    sub-dot-2
    part-dot-start-2
    part-dot-end-2
    dot-requires
    returns
    mul-result
    element-copy-out-result
    returns-2)
