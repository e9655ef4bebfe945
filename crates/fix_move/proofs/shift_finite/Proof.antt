-- `fix_move::shift_finite` meets its contract: each test is the definition's. Assumes nothing.
use borrow.Author.Rules.{rules}
use mathlib.Core.Path.{sym, ap, ◌∙◌}
use native.Mathlib.Omega.{arith}
use borrow.Author.Tests.{not-true, not-false}
use Rattle.doubles.specs.Num.{finite}
use Rattle.doubles.specs.Limits.{max_rows}
use Rattle.sparse.specs.Scattered.{sv}
use Rattle.state.specs.Packed.{basic_var_vals_at}
use Rattle.step_numbers.proofs.Parts.{listing_in}
use Rattle.fix_move.proofs.Laws.{unsound_is, sound_is}
use Rattle.fix_move.proofs.shift_finite.Statement.{statement}
use Rattle.fix_move.proofs.shift_finite.Tie as tie

add-diff : tie.Need-overflow_add-diff
add-diff c = search rules

mul-diff : tie.Need-offset_bounds-doubles-col
mul-diff c = search rules

shared-slice-read-diff : tie.Need-bounds-doubles-col
shared-slice-read-diff c = search rules

add-new-objective : tie.Need-overflow_add-col
add-new-objective c = search rules

mul-new-objective : tie.Need-offset_bounds-doubles-col-2
mul-new-objective c = search rules

shared-slice-read-new-objective : tie.Need-bounds-doubles-col-2
shared-slice-read-new-objective c = search rules

new-objective-requires : tie.Need-new_objective-objective-requires
new-objective-requires c κs = search rules

sub-moved-finite : tie.Need-slice_bounds-moved_finite-count
sub-moved-finite c = search rules

part-moved-finite-start : tie.Need-slice_bounds-moved_finite-start
part-moved-finite-start c = search rules

part-moved-finite-end : tie.Need-slice_bounds-moved_finite-end
part-moved-finite-end c = search rules

moved-finite-requires : tie.Need-moved_finite-requires
moved-finite-requires c κs =
    let s : tie.Start = search in
    listing_in basic_var_vals_at max_rows s.args.doubles.now (omega (arith, s.requires.0)) s.requires.2

returns : tie.Need-returns-then-not-moved_finite
returns c N F G m =
    let s : tie.Start = search in
    let v : tie.After-moved_finite = search in
    let a = s.args in
    unsound_is N a.doubles.now F G a.at a.col s.requires.1 (sv a.values.now m a.list.now a.count) a.value
    (sym (not-true _ c.if-not-moved_finite.true-raw) ∙ v.moved_finite.ensures m)

is-finite-requires : tie.Need-is_finite-requires
is-finite-requires c κs = search rules

returns-2 : tie.Need-returns
returns-2 c N F G m =
    let s : tie.Start = search in
    let o : tie.After-new_objective-objective = search in
    let v : tie.After-moved_finite = search in
    let x : tie.Else-not-moved_finite = search in
    let f : tie.After-is_finite = search in
    let a = s.args in
    sound_is N a.doubles.now F G a.at a.col s.requires.1 (sv a.values.now m a.list.now a.count) a.value
    (sym (not-false _ x.if-not-moved_finite.false-raw) ∙ v.moved_finite.ensures m) _ (f.is_finite.ensures ∙ ap finite o.new_objective-objective.ensures)

pub shift_finite_spec : {M : Type 1} → statement M
shift_finite_spec =
    tie.close
    (tie.spec
    add-diff
    mul-diff
    shared-slice-read-diff
    add-new-objective
    mul-new-objective
    shared-slice-read-new-objective
    new-objective-requires
    sub-moved-finite
    part-moved-finite-start
    part-moved-finite-end
    moved-finite-requires
    returns
    is-finite-requires
    returns-2)
