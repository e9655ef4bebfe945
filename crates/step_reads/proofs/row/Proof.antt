-- `step_reads::row` meets its contract: the rows are combined by the maps alone. Assumes nothing.
use borrow.Author.Rules.{rules}
use Rattle.step_reads.proofs.row.Statement.{statement}
use Rattle.step_reads.proofs.row.Tie as tie

sub-combine : tie.Need-slice_bounds-combine-count
sub-combine c = search rules

part-combine-start : tie.Need-slice_bounds-combine-start
part-combine-start c = search rules

part-combine-end : tie.Need-slice_bounds-combine-end
part-combine-end c = search rules

combine-requires : tie.Need-combine-requires
combine-requires c κs = let s : tie.Start = search in (s.requires.1, s.requires.0.1)

returns : tie.Need-returns
returns c = c.combine.ensures

pub row_spec : {M : Type 1} → statement M
row_spec =
    tie.close
    (tie.spec
    sub-combine
    part-combine-start
    part-combine-end
    combine-requires
    returns)
