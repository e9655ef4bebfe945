-- `step_store::store_basis` meets its contract: six cells are written. Assumes nothing.
use borrow.Author.Rules.{rules}
use mathlib.Core.Path.{sym, subst}
use native.Mathlib.Omega.{arith}
use lib.ListN.{length-set}
use Rattle.rules.specs.Plan.{var_cell}
use Rattle.rules.specs.Parts.{bounded}
use Rattle.step_store.specs.Lent.{Bounded}
use Rattle.step_store.proofs.Laws.{enters_is, leaves_is, basis_is}
use Rattle.step_store.proofs.store_basis.Statement.{statement}
use Rattle.step_store.proofs.store_basis.Tie as tie

add-enters : tie.Need-overflow_add-enters
add-enters c = search rules

mul-enters : tie.Need-offset_bounds-numbers-col
mul-enters c = search rules

slice-read-enters : tie.Need-bounds-numbers-col
slice-read-enters c = search rules

add-leaves : tie.Need-overflow_add-leaves
add-leaves c = search rules

mul-leaves : tie.Need-offset_bounds-numbers-row
mul-leaves c = search rules

slice-read-leaves : tie.Need-bounds-numbers-row
slice-read-leaves c = search rules

add-doubles : tie.Need-overflow_add-doubles
add-doubles c = search rules

mul-doubles : tie.Need-offset_bounds-doubles-col
mul-doubles c = search rules

slice-write-doubles : tie.Need-bounds-doubles-col
slice-write-doubles c = search rules

flags-at-requires : tie.Need-flags_at-requires
flags-at-requires c κs = let s : tie.Start = search in let a = s.args in subst (Bounded _) (sym (leaves_is _ a.numbers.now a.doubles.now a.col a.row a.leaving s.requires)) s.requires.leaves_bounds

add-numbers : tie.Need-overflow_add-numbers
add-numbers c = search rules

mul-numbers : tie.Need-offset_bounds-numbers-col-2
mul-numbers c = search rules

slice-write-numbers : tie.Need-bounds-numbers-col-2
slice-write-numbers c = search rules

add-numbers-2 : tie.Need-overflow_add-numbers-2
add-numbers-2 c = search rules

mul-numbers-2 : tie.Need-offset_bounds-numbers-row-2
mul-numbers-2 c = search rules

slice-write-numbers-2 : tie.Need-bounds-numbers-row-2
slice-write-numbers-2 c = let s : tie.Start = search in simp length-set (omega (arith, s.requires))

var-cell-requires : tie.Need-var_cell-requires
unfolding var_cell
var-cell-requires c κs = let s : tie.Start = search in omega (arith, s.requires)

add-numbers-3 : tie.Need-overflow_add-numbers-3
add-numbers-3 c = let s : tie.Start = search in let a = s.args in omega (arith, s.requires, enters_is _ a.numbers.now a.doubles.now a.col a.row a.leaving s.requires)

mul-numbers-3 : tie.Need-offset_bounds-numbers-enters
mul-numbers-3 c = let s : tie.Start = search in let a = s.args in omega (arith, s.requires, enters_is _ a.numbers.now a.doubles.now a.col a.row a.leaving s.requires)

slice-write-numbers-3 : tie.Need-bounds-numbers-enters
slice-write-numbers-3 c = let s : tie.Start = search in let a = s.args in simp length-set (omega (arith, s.requires, enters_is _ a.numbers.now a.doubles.now a.col a.row a.leaving s.requires))

add-numbers-4 : tie.Need-overflow_add-numbers-4
add-numbers-4 c = search rules

mul-numbers-4 : tie.Need-offset_bounds-numbers-col-3
mul-numbers-4 c = search rules

slice-write-numbers-4 : tie.Need-bounds-numbers-col-3
slice-write-numbers-4 c = let s : tie.Start = search in simp length-set (omega (arith, s.requires))

var-cell-requires-2 : tie.Need-var_cell-requires-2
unfolding var_cell
var-cell-requires-2 c κs = let s : tie.Start = search in omega (arith, s.requires)

add-numbers-5 : tie.Need-overflow_add-numbers-5
add-numbers-5 c = let s : tie.Start = search in let a = s.args in omega (arith, s.requires, leaves_is _ a.numbers.now a.doubles.now a.col a.row a.leaving s.requires)

mul-numbers-5 : tie.Need-offset_bounds-numbers-leaves
mul-numbers-5 c = let s : tie.Start = search in let a = s.args in omega (arith, s.requires, leaves_is _ a.numbers.now a.doubles.now a.col a.row a.leaving s.requires)

slice-write-numbers-5 : tie.Need-bounds-numbers-leaves
slice-write-numbers-5 c = let s : tie.Start = search in let a = s.args in simp length-set (omega (arith, s.requires, leaves_is _ a.numbers.now a.doubles.now a.col a.row a.leaving s.requires))

same_length : tie.Need-shape_of-numbers
same_length c = search rules

same-length-2 : tie.Need-shape_of-doubles
same-length-2 c = search rules

returns : tie.Need-returns
returns c =
    let s : tie.Start = search in
    let f : tie.After-flags_at = search in
    let y : tie.After-var_cell = search in
    let z : tie.After-var_cell-2 = search in
    let a = s.args in
    basis_is (bounded a.n a.lowers.now a.uppers.now a.ops.now a.kept.now) a.numbers.now a.doubles.now a.col a.row a.leaving s.requires _ _ _ f.flags_at.ensures y.var_cell.ensures z.var_cell-2.ensures

pub store_basis_spec : {M : Type 1} → statement M
store_basis_spec =
    tie.close
    (tie.spec
    add-enters
    mul-enters
    slice-read-enters
    add-leaves
    mul-leaves
    slice-read-leaves
    add-doubles
    mul-doubles
    slice-write-doubles
    flags-at-requires
    add-numbers
    mul-numbers
    slice-write-numbers
    add-numbers-2
    mul-numbers-2
    slice-write-numbers-2
    var-cell-requires
    add-numbers-3
    mul-numbers-3
    slice-write-numbers-3
    add-numbers-4
    mul-numbers-4
    slice-write-numbers-4
    var-cell-requires-2
    add-numbers-5
    mul-numbers-5
    slice-write-numbers-5
    same_length
    same-length-2
    returns)
