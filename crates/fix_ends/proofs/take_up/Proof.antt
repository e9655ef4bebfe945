-- `fix_ends::take_up` meets its contract: the cells that are read are the counts'. Assumes nothing.
use Rattle.std.proofs.Common.{rules}
use Rattle.fix_ends.proofs.Laws.{factor_asks, taken_up}
use Rattle.fix_ends.proofs.take_up.Statement.{statement}
use Rattle.fix_ends.proofs.take_up.Tie as tie

add-eta-count : tie.Need-overflow_add-eta_count
add-eta-count c = search rules

mul-eta-count : tie.Need-offset_bounds-numbers
mul-eta-count c = search rules

shared-slice-read-eta-count : tie.Need-bounds-numbers
shared-slice-read-eta-count c = search rules

add-factored : tie.Need-overflow_add-factored
add-factored c = search rules

mul-factored : tie.Need-offset_bounds-numbers-2
mul-factored c = search rules

shared-slice-read-factored : tie.Need-bounds-numbers-2
shared-slice-read-factored c = search rules

shared-slice-read-objective : tie.Need-bounds-doubles-4672
shared-slice-read-objective c = search rules

kept-factor-requires : tie.Need-kept_factor-requires
kept-factor-requires c κs =
    let s : tie.Start = search in
    let a = s.args in
    let p = s.requires in
    (p.rows_most, p.factor_numbers_long, p.factor_coeffs_long, factor_asks a.numbers.now a.doubles.now a.m a.factor_numbers.now a.factor_coeffs.now p)

same_length : tie.Need-shape_of-factor_numbers
same_length c = search rules

same-length-2 : tie.Need-shape_of-factor_coeffs
same-length-2 c = search rules

returns : tie.Need-returns
returns c P v e =
    let s : tie.Start = search in
    let k : tie.After-kept_factor = search in
    let a = s.args in
    taken_up a.numbers.now a.doubles.now a.m a.factor_numbers.now a.factor_coeffs.now P v e
    k.kept_factor.new.factor_numbers k.kept_factor.new.factor_coeffs k.kept_factor.ensures

pub take_up_spec : {M : Type 1} → statement M
take_up_spec =
    tie.close
    (tie.spec
    add-eta-count
    mul-eta-count
    shared-slice-read-eta-count
    add-factored
    mul-factored
    shared-slice-read-factored
    shared-slice-read-objective
    kept-factor-requires
    same_length
    same-length-2
    returns)
