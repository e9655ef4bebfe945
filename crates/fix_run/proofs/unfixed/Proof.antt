-- `fix_run::unfixed` meets its contract: the mark is taken off, then the run. Assumes nothing.
use borrow.Author.Rules.{rules}
use mathlib.Core.Path.{ap, ◌∙◌}
use native.Mathlib.Omega.{arith}
use Rattle.rules.specs.Plan.{Problem, State}
use Rattle.state.specs.Packed.{state_in}
use Rattle.cells.proofs.Parts.{bounds_of}
use Rattle.fix_rules.specs.Fix.{unmarked}
use Rattle.fix_basic.specs.Lent.{called_of}
use Rattle.fix_basic.proofs.Laws.{column_below, cell_is, unmark_asks, unmarked_runs, unfixed_by}
use Rattle.fix_run.proofs.unfixed.Statement.{statement}
use Rattle.fix_run.proofs.unfixed.Tie as tie

-- the problem and the state at entry
abbrev P : tie.Start → Problem
P s = let a = s.args in called_of a.n a.budget a.lowers.now a.uppers.now a.starts.now a.cols.now a.coeffs.now a.ops.now a.kept.now

abbrev S : tie.Start → State
S s = state_in s.args.numbers.now s.args.doubles.now s.args.factor_numbers.now s.args.factor_coeffs.now s.args.at

-- the way back
abbrev entry : tie.After-unmark → tie.Start
entry u = search

add-col : tie.Need-overflow_add-col
add-col c = search rules

mul-col : tie.Need-offset_bounds-numbers-j
mul-col c = search rules

slice-read-col : tie.Need-bounds-numbers-j
slice-read-col c = search rules

unmark-requires : tie.Need-unmark-requires
unmark-requires c κs =
    let s : tie.Start = search in
    let p = s.requires.0 in
    let a = s.args in
    let cell = cell_is a.numbers.now a.doubles.now a.j (column_below p.0 a.j p.2) in
    unmark_asks p.0 _ (omega (arith, cell, s.requires.1))

go-on-requires : tie.Need-go_on-requires
go-on-requires c κs =
    let u : tie.After-unmark = search in
    let s = entry u in
    let a = s.args in
    (unmarked_runs s.requires.0.0 u.unmark.new.numbers _ u.unmark.auto.numbers (u.unmark.ensures a.factor_numbers.now a.factor_coeffs.now a.at), s.requires.0.3)

same_length : tie.Need-shape_of-numbers
same_length c = search rules

same-length-2 : tie.Need-shape_of-doubles
same-length-2 c = search rules

same-length-3 : tie.Need-shape_of-factor_numbers
same-length-3 c = search rules

same-length-4 : tie.Need-shape_of-factor_coeffs
same-length-4 c = search rules

returns : tie.Need-returns
returns c =
    let g : tie.After-go_on = search in
    let u : tie.After-unmark = search in
    let s = entry u in
    let a = s.args in
    let p = s.requires.0 in
    let cell = cell_is a.numbers.now a.doubles.now a.j (column_below p.0 a.j p.2) in
    unfixed_by (P s) (S s) a.j p.1 _
    (u.unmark.ensures a.factor_numbers.now a.factor_coeffs.now a.at ∙ ap (unmarked (bounds_of (P s)) (S s)) cell) _ g.go_on.ensures

pub unfixed_spec : {M : Type 1} → statement M
unfixed_spec =
    tie.close
    (tie.spec
    add-col
    mul-col
    slice-read-col
    unmark-requires
    go-on-requires
    same_length
    same-length-2
    same-length-3
    same-length-4
    returns)
