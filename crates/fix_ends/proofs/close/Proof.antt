-- `fix_ends::close` meets its contract: the end of a solve, and one cell more. Assumes nothing.
use Rattle.std.proofs.Common.{rules}
use Rattle.rules.specs.Step.{ended}
use Rattle.state.specs.Packed.{state_in}
use Rattle.check_final.specs.Lent.{checked_of}
use Rattle.fix_ends.proofs.Laws.{call_closes}
use Rattle.fix_ends.proofs.close.Statement.{statement}
use Rattle.fix_ends.proofs.close.Tie as tie

add-before : tie.Need-overflow_add-before
add-before c = search rules

mul-before : tie.Need-offset_bounds-numbers
mul-before c = search rules

slice-read-before : tie.Need-bounds-numbers
slice-read-before c = search rules

close-requires : tie.Need-close-answer-requires
close-requires c κs = search rules

wrapping-add-usize-requires : tie.Need-wrapping_add_usize-requires
wrapping-add-usize-requires c κs = search rules

add-numbers : tie.Need-overflow_add-numbers
add-numbers c = search rules

mul-numbers : tie.Need-offset_bounds-numbers-2
mul-numbers c = search rules

slice-write-numbers : tie.Need-bounds-numbers-2
slice-write-numbers c = search rules

same_length : tie.Need-shape_of-values
same_length c = search rules

same-length-2 : tie.Need-shape_of-numbers
same-length-2 c = search rules

same-length-3 : tie.Need-shape_of-doubles
same-length-3 c = search rules

returns : tie.Need-returns
returns c F G =
    let s : tie.Start = search in
    let k : tie.After-close-answer = search in
    let w : tie.After-wrapping_add_usize = search in
    let a = s.args in
    let e = k.close-answer.new in
    call_closes
    (checked_of a.n a.tolerance a.lowers.now a.uppers.now a.starts.now a.cols.now a.coeffs.now a.ops.now a.rhs.now a.kept.now)
    (ended a.why (state_in a.numbers.now a.doubles.now F G a.at)) a.values.now a.numbers.now a.doubles.now F G
    _ e.values e.numbers e.doubles _ (k.close-answer.ensures F G) w.wrapping_add_usize.ensures

pub close_spec : {M : Type 1} → statement M
close_spec =
    tie.close
    (tie.spec
    add-before
    mul-before
    slice-read-before
    close-requires
    wrapping-add-usize-requires
    add-numbers
    mul-numbers
    slice-write-numbers
    same_length
    same-length-2
    same-length-3
    returns)
