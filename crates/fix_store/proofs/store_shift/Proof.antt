-- `fix_store::store_shift` meets its contract: the basic values are lent, the value is written, and the place marked. Assumes nothing.
use borrow.Author.Rules.{rules}
use native.Mathlib.Omega.{arith}
use Rattle.doubles.specs.Limits.{max_rows}
use Rattle.sparse.specs.Scattered.{sv}
use Rattle.state.specs.Packed.{basic_var_vals_at}
use Rattle.step_numbers.proofs.Parts.{listing_in}
use Rattle.fix_store.proofs.Laws.{shift_is}
use Rattle.fix_store.proofs.store_shift.Statement.{statement}
use Rattle.fix_store.proofs.store_shift.Tie as tie

add-diff : tie.Need-overflow_add-diff
add-diff c = search rules

mul-diff : tie.Need-offset_bounds-doubles-col
mul-diff c = search rules

slice-read-diff : tie.Need-bounds-doubles-col
slice-read-diff c = search rules

add-new-objective : tie.Need-overflow_add-col
add-new-objective c = search rules

mul-new-objective : tie.Need-offset_bounds-doubles-col-2
mul-new-objective c = search rules

slice-read-new-objective : tie.Need-bounds-doubles-col-2
slice-read-new-objective c = search rules

new-objective-requires : tie.Need-new_objective-objective-requires
new-objective-requires c κs = search rules

sub-store-moved : tie.Need-slice_bounds-store_moved-count
sub-store-moved c = search rules

part-store-moved-start : tie.Need-slice_bounds-store_moved-start
part-store-moved-start c = search rules

part-store-moved-end : tie.Need-slice_bounds-store_moved-end
part-store-moved-end c = search rules

store-moved-requires : tie.Need-store_moved-requires
store-moved-requires c κs =
    let s : tie.Start = search in
    listing_in basic_var_vals_at max_rows s.args.doubles.now (omega (arith, s.requires.0)) s.requires.2

add-doubles : tie.Need-overflow_add-doubles
add-doubles c = search rules

mul-doubles : tie.Need-offset_bounds-doubles-col-3
mul-doubles c = search rules

slice-write-doubles : tie.Need-bounds-doubles-col-3
slice-write-doubles c = search rules

mark-requires : tie.Need-mark-requires
mark-requires c κs = search rules

same_length : tie.Need-shape_of-numbers
same_length c = search rules

same-length-2 : tie.Need-shape_of-doubles
same-length-2 c = search rules

returns : tie.Need-returns
returns c F G m =
    let s : tie.Start = search in
    let o : tie.After-new_objective-objective = search in
    let d : tie.After-store_moved = search in
    let k : tie.After-mark = search in
    let a = s.args in
    shift_is a.numbers.now a.doubles.now F G a.at a.col s.requires.1 s.requires.0
    (sv a.values.now m a.list.now a.count) a.value d.store_moved.new.basic_var_vals k.mark.new.numbers _ (d.store_moved.ensures m)
    d.store_moved.auto.basic_var_vals o.new_objective-objective.ensures k.mark.ensures

pub store_shift_spec : {M : Type 1} → statement M
store_shift_spec =
    tie.close
    (tie.spec
    add-diff
    mul-diff
    slice-read-diff
    add-new-objective
    mul-new-objective
    slice-read-new-objective
    new-objective-requires
    sub-store-moved
    part-store-moved-start
    part-store-moved-end
    store-moved-requires
    add-doubles
    mul-doubles
    slice-write-doubles
    mark-requires
    same_length
    same-length-2
    returns)
