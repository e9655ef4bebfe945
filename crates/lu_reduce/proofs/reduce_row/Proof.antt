-- `lu_reduce::reduce_row` meets its contract: the column is a part of L, and its rows are within the vector. Assumes
-- nothing.
use mathlib.Core.Path.{◌∙◌}
use Prim.Native.Nat.{◌<◌}
use native.Mathlib.Omega.{arith}
use Rattle.doubles.specs.Lists.{◌#◌}
use Rattle.lu_factor_rules.proofs.Laws.{row_limits, column_read, within_places, back_taken, back_left}
use Rattle.lu_reduce.proofs.reduce_row.Statement.{statement}
use Rattle.lu_reduce.proofs.reduce_row.Tie as tie

-- the row has a pivot number
abbrev Pivot : tie.Start → Type 0
Pivot s = s.args.number.now # s.args.row < s.args.i

mul-j : tie.Need-offset_bounds-number-row
mul-j c = let s : tie.Start = search in omega (arith, s.requires.0.1, s.requires.0.0.columns.falling.small)

element-copy-out-j : tie.Need-bounds-number-row
element-copy-out-j c = let s : tie.Start = search in omega (arith, s.requires.0.1, s.requires.0.0.columns.falling.small)

returns : tie.Need-returns-then-i-j
returns c = back_left _ _ _ _ _ _ _ c.if-i-j.true

mul-x : tie.Need-offset_bounds-values-row
mul-x c = let s : tie.Start = search in omega (arith, s.requires.0.1, s.requires.0.0.columns.falling.small)

element-copy-out-x : tie.Need-bounds-values-row
element-copy-out-x c = let s : tie.Start = search in omega (arith, s.requires.0.1, s.requires.0.0.columns.falling.small)

mul-a : tie.Need-offset_bounds-starts-j
mul-a c = let s : tie.Start = search in let p : Pivot s = search in omega
    (arith, row_limits s.requires.0.0 _ s.requires.0.1 p)

element-copy-out-a : tie.Need-bounds-starts-j
element-copy-out-a c = let s : tie.Start = search in let p : Pivot s = search in omega
    (arith, row_limits s.requires.0.0 _ s.requires.0.1 p)

add-e : tie.Need-overflow_add-e
add-e c = let s : tie.Start = search in let p : Pivot s = search in omega
    (arith, row_limits s.requires.0.0 _ s.requires.0.1 p)

mul-e : tie.Need-offset_bounds-starts-j-2
mul-e c = let s : tie.Start = search in let p : Pivot s = search in omega
    (arith, row_limits s.requires.0.0 _ s.requires.0.1 p)

element-copy-out-e : tie.Need-bounds-starts-j-2
element-copy-out-e c = let s : tie.Start = search in let p : Pivot s = search in omega
    (arith, row_limits s.requires.0.0 _ s.requires.0.1 p)

mul-take-off : tie.Need-offset_bounds-rows-a
mul-take-off c = let s : tie.Start = search in let p : Pivot s = search in omega
    (arith, row_limits s.requires.0.0 _ s.requires.0.1 p)

sub-take-off : tie.Need-slice_bounds-take_off-count
sub-take-off c = let s : tie.Start = search in let p : Pivot s = search in omega
    (arith, row_limits s.requires.0.0 _ s.requires.0.1 p)

part-take-off-start : tie.Need-slice_bounds-take_off-start
part-take-off-start c = let s : tie.Start = search in let p : Pivot s = search in omega
    (arith, row_limits s.requires.0.0 _ s.requires.0.1 p)

part-take-off-end : tie.Need-slice_bounds-take_off-end
part-take-off-end c = let s : tie.Start = search in let p : Pivot s = search in omega
    (arith, row_limits s.requires.0.0 _ s.requires.0.1 p)

mul-take-off-2 : tie.Need-offset_bounds-vals-a
mul-take-off-2 c = let s : tie.Start = search in let p : Pivot s = search in omega
    (arith, row_limits s.requires.0.0 _ s.requires.0.1 p)

sub-take-off-2 : tie.Need-slice_bounds-take_off-count-2
sub-take-off-2 c = let s : tie.Start = search in let p : Pivot s = search in omega
    (arith, row_limits s.requires.0.0 _ s.requires.0.1 p)

part-take-off-start-2 : tie.Need-slice_bounds-take_off-start-2
part-take-off-start-2 c = let s : tie.Start = search in let p : Pivot s = search in omega
    (arith, row_limits s.requires.0.0 _ s.requires.0.1 p)

part-take-off-end-2 : tie.Need-slice_bounds-take_off-end-2
part-take-off-end-2 c = let s : tie.Start = search in let p : Pivot s = search in omega
    (arith, row_limits s.requires.0.0 _ s.requires.0.1 p)

take-off-requires : tie.Need-take_off-requires
take-off-requires c κs =
    let s : tie.Start = search in
    let p : Pivot s = search in
    (s.requires.1, (column_read s.requires.0.0 _ s.requires.0.1 p, within_places s.requires.0.0 _ s.requires.0.1 p))

returns-2 : tie.Need-returns
returns-2 c = let s : tie.Start = search in let p : Pivot s = search in c.take_off.ensures ∙ back_taken _ _ _ _ _ _ _
    p

pub reduce_row_spec : {M : Type 1} → statement M
reduce_row_spec =
    tie.close
    (tie.spec
    mul-j
    element-copy-out-j
    returns
    mul-x
    element-copy-out-x
    mul-a
    element-copy-out-a
    add-e
    mul-e
    element-copy-out-e
    mul-take-off
    sub-take-off
    part-take-off-start
    part-take-off-end
    mul-take-off-2
    sub-take-off-2
    part-take-off-start-2
    part-take-off-end-2
    take-off-requires
    returns-2)
