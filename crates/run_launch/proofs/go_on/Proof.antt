-- `run_launch::go_on` meets its contract: the matrix by columns, then the run, of both kinds of step or of one. Assumes nothing.
use mathlib.Core.Path.{sym}
use native.Mathlib.Omega.{arith}
use borrow.Author.Rules.{rules}
use Rattle.rules.specs.Plan.{Problem, State}
use Rattle.state.specs.Packed.{state_in}
use Rattle.step_refactor.specs.Left.{stepped}
use Rattle.run_launch.proofs.Laws.{transposes, goes_both, goes_primal}
use Rattle.run_launch.proofs.go_on.Statement.{statement}
use Rattle.run_launch.proofs.go_on.Tie as tie

-- the problem and the state at entry
abbrev Q : tie.Start → Problem
Q s = stepped s.args.n s.args.lowers.now s.args.uppers.now s.args.starts.now s.args.cols.now s.args.coeffs.now s.args.ops.now s.args.kept.now

abbrev S : tie.Start → State
S s = state_in s.args.numbers.now s.args.doubles.now s.args.factor_numbers.now s.args.factor_coeffs.now s.args.at

-- the way back
abbrev entry : tie.After-by_columns → tie.Start
entry b = search

abbrev dual-at : tie.After-both → tie.Then-dual
dual-at r = search

abbrev primal-at : tie.After-optimize → tie.Else-dual
primal-at r = search

by-columns-requires : tie.Need-by_columns-requires
by-columns-requires c κs = let s : tie.Start = search in
    (transposes s.requires.0, search)

slice-aggregate-both : tie.Need-slice_bounds-both-end
slice-aggregate-both c = let b : tie.After-by_columns = search in
    sym b.by_columns.ensures.1

slice-aggregate-both-2 : tie.Need-slice_bounds-both-end-then-dual
slice-aggregate-both-2 c = search rules

slice-aggregate-both-3 : tie.Need-slice_bounds-both-end-then-dual-2
slice-aggregate-both-3 c = search rules

both-requires : tie.Need-both-requires
both-requires c κs =
    let s : tie.Start = search in
    let b : tie.After-by_columns = search in
    (s.requires.0, (b.by_columns.ensures.0, omega (arith, b.by_columns.ensures.1, s.requires.0.problem_fits.plan.columns_most), s.requires.1))

same_length : tie.Need-shape_of-numbers-then-dual
same_length c = let r : tie.After-both = search in
    r.both.auto.numbers

same-length-2 : tie.Need-shape_of-doubles-then-dual
same-length-2 c = let r : tie.After-both = search in
    r.both.auto.doubles

same-length-3 : tie.Need-shape_of-factor_numbers-then-dual
same-length-3 c = let r : tie.After-both = search in
    r.both.auto.factor_numbers

same-length-4 : tie.Need-shape_of-factor_coeffs-then-dual
same-length-4 c = let r : tie.After-both = search in
    r.both.auto.factor_coeffs

returns : tie.Need-returns-then-dual
returns c =
    let b : tie.After-by_columns = search in
    let s = entry b in
    let r : tie.After-both = search in
    goes_both (Q s) s.args.budget (S s) _ _ (dual-at r).if-dual.true r.both.ensures

slice-aggregate-optimize : tie.Need-slice_bounds-optimize-end
slice-aggregate-optimize c = let b : tie.After-by_columns = search in
    sym b.by_columns.ensures.1

slice-aggregate-optimize-2 : tie.Need-slice_bounds-optimize-end-2
slice-aggregate-optimize-2 c = search rules

slice-aggregate-optimize-3 : tie.Need-slice_bounds-optimize-end-3
slice-aggregate-optimize-3 c = search rules

optimize-requires : tie.Need-optimize-requires
optimize-requires c κs =
    let s : tie.Start = search in
    let b : tie.After-by_columns = search in
    (s.requires.0, (b.by_columns.ensures.0, omega (arith, b.by_columns.ensures.1, s.requires.0.problem_fits.plan.columns_most), s.requires.1))

same-length-5 : tie.Need-shape_of-numbers
same-length-5 c = let r : tie.After-optimize = search in
    r.optimize.auto.numbers

same-length-6 : tie.Need-shape_of-doubles
same-length-6 c = let r : tie.After-optimize = search in
    r.optimize.auto.doubles

same-length-7 : tie.Need-shape_of-factor_numbers
same-length-7 c = let r : tie.After-optimize = search in
    r.optimize.auto.factor_numbers

same-length-8 : tie.Need-shape_of-factor_coeffs
same-length-8 c = let r : tie.After-optimize = search in
    r.optimize.auto.factor_coeffs

returns-2 : tie.Need-returns
returns-2 c =
    let b : tie.After-by_columns = search in
    let s = entry b in
    let r : tie.After-optimize = search in
    goes_primal (Q s) s.args.budget (S s) _ _ (primal-at r).if-dual.false r.optimize.ensures

pub go_on_spec : {M : Type 1} → statement M
go_on_spec =
    tie.close
    (tie.spec
    by-columns-requires
    slice-aggregate-both
    slice-aggregate-both-2
    slice-aggregate-both-3
    both-requires
    same_length
    same-length-2
    same-length-3
    same-length-4
    returns
    slice-aggregate-optimize
    slice-aggregate-optimize-2
    slice-aggregate-optimize-3
    optimize-requires
    same-length-5
    same-length-6
    same-length-7
    same-length-8
    returns-2)
