-- `fix_store::unmark` meets its contract: one cell is written. Assumes nothing.
use borrow.Author.Rules.{rules}
use mathlib.Core.Path.{sym, subst}
use Rattle.rules.specs.Parts.{bounded}
use Rattle.step_store.specs.Lent.{Bounded}
use Rattle.fix_store.proofs.Laws.{var_is, unmark_is}
use Rattle.fix_store.proofs.unmark.Statement.{statement}
use Rattle.fix_store.proofs.unmark.Tie as tie

add-var : tie.Need-overflow_add-var
add-var c = search rules

mul-var : tie.Need-offset_bounds-numbers-col
mul-var c = search rules

slice-read-var : tie.Need-bounds-numbers-col
slice-read-var c = search rules

add-x : tie.Need-overflow_add-x
add-x c = search rules

mul-x : tie.Need-offset_bounds-doubles-col
mul-x c = search rules

shared-slice-read-x : tie.Need-bounds-doubles-col
shared-slice-read-x c = search rules

flags-at-requires : tie.Need-flags_at-requires
flags-at-requires c κs =
    let s : tie.Start = search in
    let a = s.args in
    subst (Bounded _) (sym (var_is a.numbers.now a.doubles.now a.col s.requires.col_inside)) s.requires.bounds

add-numbers : tie.Need-overflow_add-numbers
add-numbers c = search rules

mul-numbers : tie.Need-offset_bounds-numbers-col-2
mul-numbers c = search rules

slice-write-numbers : tie.Need-bounds-numbers-col-2
slice-write-numbers c = search rules

same_length : tie.Need-shape_of-numbers
same_length c = search rules

returns : tie.Need-returns
returns c F G t =
    let s : tie.Start = search in
    let f : tie.After-flags_at = search in
    let a = s.args in
    unmark_is a.numbers.now a.doubles.now F G t a.col s.requires.col_inside
    (bounded a.n a.lowers.now a.uppers.now a.ops.now a.kept.now) _ f.flags_at.ensures

pub unmark_spec : {M : Type 1} → statement M
unmark_spec =
    tie.close
    (tie.spec
    add-var
    mul-var
    slice-read-var
    add-x
    mul-x
    shared-slice-read-x
    flags-at-requires
    add-numbers
    mul-numbers
    slice-write-numbers
    same_length
    returns)
