-- `basis_etas::eta_turn` meets its contract: the column is a part of the store, and its places are within the vector. Assumes nothing.
use borrow.Author.Rules.{rules}
use Rattle.rules.specs.Basis.{eta_turn}
use Rattle.basis_etas.proofs.Laws.{col_read}
use Rattle.basis_etas.proofs.eta_turn.Statement.{statement}
use Rattle.basis_etas.proofs.eta_turn.Tie as tie

mul-r : tie.Need-offset_bounds-leaving-k
mul-r c = search rules

shared-slice-read-r : tie.Need-bounds-leaving-k
shared-slice-read-r c = search rules

mul-coeff : tie.Need-offset_bounds-values-r
mul-coeff c = search rules

element-copy-out-coeff : tie.Need-bounds-values-r
element-copy-out-coeff c = search rules

mul-a : tie.Need-offset_bounds-starts-k
mul-a c = search rules

shared-slice-read-a : tie.Need-bounds-starts-k
shared-slice-read-a c = search rules

add-e : tie.Need-overflow_add-e
add-e c = search rules

mul-e : tie.Need-offset_bounds-starts-k-2
mul-e c = search rules

shared-slice-read-e : tie.Need-bounds-starts-k-2
shared-slice-read-e c = search rules

mul-take-off : tie.Need-offset_bounds-rows-a
mul-take-off c = search rules

sub-take-off : tie.Need-slice_bounds-take_off-count
sub-take-off c = search rules

part-take-off-start : tie.Need-slice_bounds-take_off-start
part-take-off-start c = search rules

part-take-off-end : tie.Need-slice_bounds-take_off-end
part-take-off-end c = search rules

mul-take-off-2 : tie.Need-offset_bounds-coeffs-a
mul-take-off-2 c = search rules

sub-take-off-2 : tie.Need-slice_bounds-take_off-count-2
sub-take-off-2 c = search rules

part-take-off-start-2 : tie.Need-slice_bounds-take_off-start-2
part-take-off-start-2 c = search rules

part-take-off-end-2 : tie.Need-slice_bounds-take_off-end-2
part-take-off-end-2 c = search rules

take-off-requires : tie.Need-take_off-requires
take-off-requires c κs =
    let s : tie.Start = search in
    (s.requires.0, col_read _ _ s.requires.1)

returns : tie.Need-returns
unfolding eta_turn
returns c =
    let d : tie.After-take_off = search in
    d.take_off.ensures

pub eta_turn_spec : {M : Type 1} → statement M
eta_turn_spec =
    tie.close
    (tie.spec
    mul-r
    shared-slice-read-r
    mul-coeff
    element-copy-out-coeff
    mul-a
    shared-slice-read-a
    add-e
    mul-e
    shared-slice-read-e
    mul-take-off
    sub-take-off
    part-take-off-start
    part-take-off-end
    mul-take-off-2
    sub-take-off-2
    part-take-off-start-2
    part-take-off-end-2
    take-off-requires
    returns)
