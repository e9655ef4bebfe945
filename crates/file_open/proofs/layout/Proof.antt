-- `file_open::layout` meets its contract. Assumes nothing.
use mathlib.Core.Path.{◌≡◌}
use native.Mathlib.Omega.{arith}
use borrow.Author.Rules.{rules}
use Rattle.file_open.proofs.Laws.{few}
use Rattle.file_open.proofs.layout.Statement.{statement}
use Rattle.file_open.proofs.layout.Tie as tie

mul-ceil : tie.Need-overflow_mul-columns
mul-ceil c = search rules

ceil-requires : tie.Need-ceil-numbers-requires
ceil-requires c κs = search rules

ceil-requires-2 : tie.Need-ceil-marks-requires
ceil-requires-2 c κs = search rules

mul-ceil-2 : tie.Need-overflow_mul-rows
mul-ceil-2 c = search rules

ceil-requires-3 : tie.Need-ceil-sides-requires
ceil-requires-3 c κs = search rules

mul-ceil-3 : tie.Need-overflow_mul-rows-2
mul-ceil-3 c = let s : tie.Start = search in omega (arith, few s.args.rows s.args.columns s.requires.0 s.requires.1)

mul-ceil-4 : tie.Need-overflow_mul-rows-3
mul-ceil-4 c = let s : tie.Start = search in omega (arith, few s.args.rows s.args.columns s.requires.0 s.requires.1)

ceil-requires-4 : tie.Need-ceil-costs-requires
ceil-requires-4 c κs = let s : tie.Start = search in omega (arith, few s.args.rows s.args.columns s.requires.0 s.requires.1)

add-costs : tie.Need-overflow_add-costs
add-costs c = let s : tie.Start = search in omega (arith, few s.args.rows s.args.columns s.requires.0 s.requires.1)

add-lower-marks : tie.Need-overflow_add-lower_marks
add-lower-marks c = let s : tie.Start = search in omega (arith, few s.args.rows s.args.columns s.requires.0 s.requires.1)

add-lower-marks-2 : tie.Need-overflow_add-lower_marks-2
add-lower-marks-2 c = let s : tie.Start = search in omega (arith, few s.args.rows s.args.columns s.requires.0 s.requires.1)

add-lower-marks-3 : tie.Need-overflow_add-lower_marks-3
add-lower-marks-3 c = let s : tie.Start = search in omega (arith, few s.args.rows s.args.columns s.requires.0 s.requires.1)

add-rhs : tie.Need-overflow_add-rhs
add-rhs c = let s : tie.Start = search in omega (arith, few s.args.rows s.args.columns s.requires.0 s.requires.1)

add-rhs-2 : tie.Need-overflow_add-rhs-2
add-rhs-2 c = let s : tie.Start = search in omega (arith, few s.args.rows s.args.columns s.requires.0 s.requires.1)

add-amounts : tie.Need-overflow_add-amounts
add-amounts c = let s : tie.Start = search in omega (arith, few s.args.rows s.args.columns s.requires.0 s.requires.1)

ceil-requires-5 : tie.Need-ceil-requires
ceil-requires-5 c κs = search rules

add-amounts-2 : tie.Need-overflow_add-amounts-2
add-amounts-2 c = let s : tie.Start = search in omega (arith, few s.args.rows s.args.columns s.requires.0 s.requires.1)

add-t10 : tie.Need-overflow_add-result
add-t10 c = let s : tie.Start = search in omega (arith, few s.args.rows s.args.columns s.requires.0 s.requires.1)

add-t11 : tie.Need-overflow_add-result-2
add-t11 c = let s : tie.Start = search in omega (arith, few s.args.rows s.args.columns s.requires.0 s.requires.1)

add-t12 : tie.Need-overflow_add-result-3
add-t12 c = let s : tie.Start = search in omega (arith, few s.args.rows s.args.columns s.requires.0 s.requires.1)

add-t13 : tie.Need-overflow_add-result-4
add-t13 c = let s : tie.Start = search in omega (arith, few s.args.rows s.args.columns s.requires.0 s.requires.1)

add-t14 : tie.Need-overflow_add-result-5
add-t14 c = let s : tie.Start = search in omega (arith, few s.args.rows s.args.columns s.requires.0 s.requires.1)

add-t15 : tie.Need-overflow_add-result-6
add-t15 c = let s : tie.Start = search in omega (arith, few s.args.rows s.args.columns s.requires.0 s.requires.1)

add-t16 : tie.Need-overflow_add-result-7
add-t16 c = let s : tie.Start = search in omega (arith, few s.args.rows s.args.columns s.requires.0 s.requires.1)

add-t17 : tie.Need-overflow_add-result-8
add-t17 c = let s : tie.Start = search in omega (arith, few s.args.rows s.args.columns s.requires.0 s.requires.1)

returns : tie.Need-returns
returns c =
    let a : tie.After-ceil-numbers = search in
    let b : tie.After-ceil-marks = search in
    let d : tie.After-ceil-sides = search in
    let e : tie.After-ceil-costs = search in
    let f : tie.After-ceil = search in
    rw (a.ceil-numbers.ensures, b.ceil-marks.ensures, d.ceil-sides.ensures, e.ceil-costs.ensures, f.ceil.ensures)

pub layout_spec : {M : Type 1} → statement M
layout_spec =
    tie.close
    (tie.spec
    mul-ceil
    ceil-requires
    ceil-requires-2
    mul-ceil-2
    ceil-requires-3
    mul-ceil-3
    mul-ceil-4
    ceil-requires-4
    add-costs
    add-lower-marks
    add-lower-marks-2
    add-lower-marks-3
    add-rhs
    add-rhs-2
    add-amounts
    ceil-requires-5
    add-amounts-2
    add-t10
    add-t11
    add-t12
    add-t13
    add-t14
    add-t15
    add-t16
    add-t17
    returns)
