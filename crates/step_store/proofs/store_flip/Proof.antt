-- `step_store::store_flip` meets its contract: a section is lent and two cells are written. Assumes nothing.
use borrow.Author.Rules.{rules}
use mathlib.Core.Path.{sym, subst}
use mathlib.Core.List.{[]}
use native.Mathlib.Omega.{arith}
use Rattle.doubles.specs.Limits.{max_rows}
use Rattle.sparse.specs.Scattered.{sv}
use Rattle.rules.specs.Parts.{bounded}
use Rattle.rules.specs.Pivot.{new_objective}
use Rattle.state.specs.Packed.{basic_var_vals_at}
use Rattle.step_store.specs.Lent.{Bounded}
use Rattle.step_numbers.proofs.Parts.{listing_in}
use Rattle.step_store.proofs.Laws.{var_is, flip_is}
use Rattle.step_store.proofs.store_flip.Statement.{statement}
use Rattle.step_store.proofs.store_flip.Tie as tie

add-var : tie.Need-overflow_add-var
add-var c = search rules

mul-var : tie.Need-offset_bounds-numbers-col
mul-var c = search rules

slice-read-var : tie.Need-bounds-numbers-col
slice-read-var c = search rules

sub-store-moved : tie.Need-slice_bounds-store_moved-count
sub-store-moved c = search rules

part-store-moved-start : tie.Need-slice_bounds-store_moved-start
part-store-moved-start c = search rules

part-store-moved-end : tie.Need-slice_bounds-store_moved-end
part-store-moved-end c = search rules

store-moved-requires : tie.Need-store_moved-requires
store-moved-requires c κs = let s : tie.Start = search in listing_in basic_var_vals_at max_rows s.args.doubles.now (omega (arith, s.requires.0.sized)) s.requires.1.0

add-doubles : tie.Need-overflow_add-doubles
add-doubles c = search rules

mul-doubles : tie.Need-offset_bounds-doubles-col
mul-doubles c = search rules

slice-write-doubles : tie.Need-bounds-doubles-col
slice-write-doubles c = search rules

flags-at-requires : tie.Need-flags_at-requires
flags-at-requires c κs = let s : tie.Start = search in let a = s.args in subst (Bounded _) (sym (var_is _ a.numbers.now a.doubles.now a.at a.e (sv a.values.now [] a.list.now a.count) a.value a.diff s.requires.0)) s.requires.0.bounds

add-numbers : tie.Need-overflow_add-numbers
add-numbers c = search rules

mul-numbers : tie.Need-offset_bounds-numbers-col-2
mul-numbers c = search rules

slice-write-numbers : tie.Need-bounds-numbers-col-2
slice-write-numbers c = search rules

add-steps : tie.Need-overflow_add-steps
add-steps c = search rules

new-objective-requires : tie.Need-new_objective-requires
new-objective-requires c κs = search rules

same_length : tie.Need-shape_of-numbers
same_length c = search rules

same-length-2 : tie.Need-shape_of-doubles
same-length-2 c = search rules

returns : tie.Need-returns
unfolding new_objective
returns c m =
    let s : tie.Start = search in
    let d : tie.After-store_moved = search in
    let f : tie.After-flags_at = search in
    let o : tie.After-new_objective = search in
    let a = s.args in
    flip_is (bounded a.n a.lowers.now a.uppers.now a.ops.now a.kept.now) a.numbers.now a.doubles.now a.at a.e (sv a.values.now m a.list.now a.count) a.value a.diff s.requires.0
    d.store_moved.new.basic_var_vals _ _ (d.store_moved.ensures m) d.store_moved.auto.basic_var_vals f.flags_at.ensures o.new_objective.ensures

pub store_flip_spec : {M : Type 1} → statement M
store_flip_spec =
    tie.close
    (tie.spec
    add-var
    mul-var
    slice-read-var
    sub-store-moved
    part-store-moved-start
    part-store-moved-end
    store-moved-requires
    add-doubles
    mul-doubles
    slice-write-doubles
    flags-at-requires
    add-numbers
    mul-numbers
    slice-write-numbers
    add-steps
    new-objective-requires
    same_length
    same-length-2
    returns)
