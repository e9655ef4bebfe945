-- `step_reads::inv_row` meets its contract: the solve reads the eta store and the factor alone. Assumes nothing.
use borrow.Author.Rules.{rules}
use Rattle.basis_solves.proofs.Laws.{transposed_untimed}
use Rattle.step_reads.proofs.inv_row.Statement.{statement}
use Rattle.step_reads.proofs.inv_row.Tie as tie

sub-inv-row : tie.Need-slice_bounds-inv_row-count
sub-inv-row c = search rules

part-inv-row-start : tie.Need-slice_bounds-inv_row-start
part-inv-row-start c = search rules

part-inv-row-end : tie.Need-slice_bounds-inv_row-end
part-inv-row-end c = search rules

sub-inv-row-2 : tie.Need-slice_bounds-inv_row-count-2
sub-inv-row-2 c = search rules

part-inv-row-start-2 : tie.Need-slice_bounds-inv_row-start-2
part-inv-row-start-2 c = search rules

part-inv-row-end-2 : tie.Need-slice_bounds-inv_row-end-2
part-inv-row-end-2 c = search rules

sub-inv-row-3 : tie.Need-slice_bounds-inv_row-count-3
sub-inv-row-3 c = search rules

part-inv-row-start-3 : tie.Need-slice_bounds-inv_row-start-3
part-inv-row-start-3 c = search rules

part-inv-row-end-3 : tie.Need-slice_bounds-inv_row-end-3
part-inv-row-end-3 c = search rules

sub-inv-row-4 : tie.Need-slice_bounds-inv_row-count-4
sub-inv-row-4 c = search rules

part-inv-row-start-4 : tie.Need-slice_bounds-inv_row-start-4
part-inv-row-start-4 c = search rules

part-inv-row-end-4 : tie.Need-slice_bounds-inv_row-end-4
part-inv-row-end-4 c = search rules

inv-row-requires : tie.Need-inv_row-requires
inv-row-requires c κs =
    let s : tie.Start = search in
    ((s.requires.0.1, s.requires.0.2), transposed_untimed s.requires.1)

returns : tie.Need-returns
returns c P e = let s : tie.Start = search in c.inv_row.ensures P s.args.at.factorings e

pub inv_row_spec : {M : Type 1} → statement M
inv_row_spec =
    tie.close
    (tie.spec
    sub-inv-row
    part-inv-row-start
    part-inv-row-end
    sub-inv-row-2
    part-inv-row-start-2
    part-inv-row-end-2
    sub-inv-row-3
    part-inv-row-start-3
    part-inv-row-end-3
    sub-inv-row-4
    part-inv-row-start-4
    part-inv-row-end-4
    inv-row-requires
    returns)
