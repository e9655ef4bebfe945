-- `basis_etas::eta_turn_transp` meets its contract: the column is a part of the store, and its places are within the vector. Assumes nothing.
use borrow.Author.Rules.{rules}
use mathlib.Core.Path.{ap, ◌∙◌}
use Rattle.sparse.specs.Scattered.{sub_at}
use Rattle.rules.specs.Basis.{eta_turn_transp}
use Rattle.basis_etas.proofs.Laws.{col_read}
use Rattle.basis_etas.proofs.eta_turn_transp.Statement.{statement}
use Rattle.basis_etas.proofs.eta_turn_transp.Tie as tie

mul-a : tie.Need-offset_bounds-starts-k
mul-a c = search rules

shared-slice-read-a : tie.Need-bounds-starts-k
shared-slice-read-a c = search rules

add-e : tie.Need-overflow_add-e
add-e c = search rules

mul-e : tie.Need-offset_bounds-starts-k-2
mul-e c = search rules

shared-slice-read-e : tie.Need-bounds-starts-k-2
shared-slice-read-e c = search rules

mul-dot : tie.Need-offset_bounds-rows-a
mul-dot c = search rules

sub-dot : tie.Need-slice_bounds-dot-count
sub-dot c = search rules

part-dot-start : tie.Need-slice_bounds-dot-start
part-dot-start c = search rules

part-dot-end : tie.Need-slice_bounds-dot-end
part-dot-end c = search rules

mul-dot-2 : tie.Need-offset_bounds-coeffs-a
mul-dot-2 c = search rules

sub-dot-2 : tie.Need-slice_bounds-dot-count-2
sub-dot-2 c = search rules

part-dot-start-2 : tie.Need-slice_bounds-dot-start-2
part-dot-start-2 c = search rules

part-dot-end-2 : tie.Need-slice_bounds-dot-end-2
part-dot-end-2 c = search rules

dot-requires : tie.Need-dot-coeff-requires
dot-requires c κs =
    let s : tie.Start = search in
    let r = col_read _ _ s.requires.1 in
    (r.0, rw s.requires.0.vals_long r.1)

mul-r : tie.Need-offset_bounds-leaving-k
mul-r c = search rules

shared-slice-read-r : tie.Need-bounds-leaving-k
shared-slice-read-r c = search rules

sub-at-requires : tie.Need-sub_at-requires
sub-at-requires c κs = search rules

returns : tie.Need-returns
unfolding eta_turn_transp
returns c =
    let d : tie.After-dot-coeff = search in
    let e : tie.After-sub_at = search in
    e.sub_at.ensures ∙ ap (sub_at _ _) d.dot-coeff.ensures

pub eta_turn_transp_spec : {M : Type 1} → statement M
eta_turn_transp_spec =
    tie.close
    (tie.spec
    mul-a
    shared-slice-read-a
    add-e
    mul-e
    shared-slice-read-e
    mul-dot
    sub-dot
    part-dot-start
    part-dot-end
    mul-dot-2
    sub-dot-2
    part-dot-start-2
    part-dot-end-2
    dot-requires
    mul-r
    shared-slice-read-r
    sub-at-requires
    returns)
