-- `reprice_factor::solve_now` meets its contract: two transposes, and the solves with them. Assumes nothing.
use borrow.Author.Rules.{rules}
use mathlib.Core.Path.{refl, sym, ◌∙◌}
use Rattle.reprice_factor.proofs.Laws.{filled_by, solid_by, solved_same}
use Rattle.reprice_factor.proofs.solve_now.Statement.{statement}
use Rattle.reprice_factor.proofs.solve_now.Tie as tie

transpose-requires : tie.Need-transpose-requires
transpose-requires c κs = search rules

transpose-requires-2 : tie.Need-transpose-requires-2
transpose-requires-2 c κs = search rules

slice-aggregate-solve-multipliers : tie.Need-slice_bounds-solve_multipliers-end-2
slice-aggregate-solve-multipliers c =
    let a : tie.After-transpose = search in
    sym (filled_by _ _ a.transpose.ensures).starts_long

slice-aggregate-solve-multipliers-2 : tie.Need-slice_bounds-solve_multipliers-end-3
slice-aggregate-solve-multipliers-2 c =
    let a : tie.After-transpose = search in
    sym (filled_by _ _ a.transpose.ensures).rows_long

slice-aggregate-solve-multipliers-3 : tie.Need-slice_bounds-solve_multipliers-end-4
slice-aggregate-solve-multipliers-3 c =
    let a : tie.After-transpose = search in
    sym (filled_by _ _ a.transpose.ensures).vals_long

slice-aggregate-solve-multipliers-4 : tie.Need-slice_bounds-solve_multipliers-end-5
slice-aggregate-solve-multipliers-4 c =
    let b : tie.After-transpose-2 = search in
    sym (filled_by _ _ b.transpose-2.ensures).starts_long

slice-aggregate-solve-multipliers-5 : tie.Need-slice_bounds-solve_multipliers-end-6
slice-aggregate-solve-multipliers-5 c =
    let b : tie.After-transpose-2 = search in
    sym (filled_by _ _ b.transpose-2.ensures).rows_long

slice-aggregate-solve-multipliers-6 : tie.Need-slice_bounds-solve_multipliers-end-7
slice-aggregate-solve-multipliers-6 c =
    let b : tie.After-transpose-2 = search in
    sym (filled_by _ _ b.transpose-2.ensures).vals_long

solve-multipliers-requires : tie.Need-solve_multipliers-requires
solve-multipliers-requires c κs =
    let s : tie.Start = search in
    let a : tie.After-transpose = search in
    let b : tie.After-transpose-2 = c.before.before.before.before.before.before.before.before.before.before in
    let x = s.requires.1 in
    let solid = solid_by _ _ _ a.transpose.ensures b.transpose-2.ensures x in
    ((x.lower_read.small, s.requires.0.0, s.requires.0.1), solid)

returns : tie.Need-returns
returns c =
    let a : tie.After-transpose = search in
    let b : tie.After-transpose-2 =
    c.before.before.before.before.before.before.before.before.before.before.before in
    c.solve_multipliers.ensures ∙ solved_same _ _ refl a.transpose.ensures b.transpose-2.ensures refl

pub solve_now_spec : {M : Type 1} → statement M
solve_now_spec =
    tie.close
    (tie.spec
    transpose-requires
    transpose-requires-2
    slice-aggregate-solve-multipliers
    slice-aggregate-solve-multipliers-2
    slice-aggregate-solve-multipliers-3
    slice-aggregate-solve-multipliers-4
    slice-aggregate-solve-multipliers-5
    slice-aggregate-solve-multipliers-6
    solve-multipliers-requires
    returns)
