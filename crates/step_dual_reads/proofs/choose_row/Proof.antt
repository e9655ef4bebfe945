-- `step_dual_reads::choose_row` meets its contract: the choice reads just the sections that are lent on. Assumes nothing.
use borrow.Author.Rules.{rules}
use mathlib.Core.Path.{sym, ◌∙◌}
use Rattle.rules.specs.Parts.{bounded}
use Rattle.step_leaving.proofs.Parts.{choose_row_part, leaving_part_holds}
use Rattle.state.specs.Packed.{packed}
use Rattle.step_dual_reads.proofs.choose_row.Statement.{statement}
use Rattle.step_dual_reads.proofs.choose_row.Tie as tie

sub-choose-row : tie.Need-slice_bounds-choose_row-count
sub-choose-row c = search rules

part-choose-row-start : tie.Need-slice_bounds-choose_row-start
part-choose-row-start c = search rules

part-choose-row-end : tie.Need-slice_bounds-choose_row-end
part-choose-row-end c = search rules

sub-choose-row-2 : tie.Need-slice_bounds-choose_row-count-2
sub-choose-row-2 c = search rules

part-choose-row-start-2 : tie.Need-slice_bounds-choose_row-start-2
part-choose-row-start-2 c = search rules

part-choose-row-end-2 : tie.Need-slice_bounds-choose_row-end-2
part-choose-row-end-2 c = search rules

sub-choose-row-3 : tie.Need-slice_bounds-choose_row-count-3
sub-choose-row-3 c = search rules

part-choose-row-start-3 : tie.Need-slice_bounds-choose_row-start-3
part-choose-row-start-3 c = search rules

part-choose-row-end-3 : tie.Need-slice_bounds-choose_row-end-3
part-choose-row-end-3 c = search rules

choose-row-requires : tie.Need-choose_row-requires
choose-row-requires c κs = let s : tie.Start = search in leaving_part_holds s.requires.1

returns : tie.Need-returns
returns c =
    let s : tie.Start = search in
    let a = s.args in
    c.choose_row.ensures
    ∙ sym (choose_row_part (bounded a.n a.lowers.now a.uppers.now a.ops.now a.kept.now) (packed a.numbers.now a.doubles.now))

pub choose_row_spec : {M : Type 1} → statement M
choose_row_spec =
    tie.close
    (tie.spec
    sub-choose-row
    part-choose-row-start
    part-choose-row-end
    sub-choose-row-2
    part-choose-row-start-2
    part-choose-row-end-2
    sub-choose-row-3
    part-choose-row-start-3
    part-choose-row-end-3
    choose-row-requires
    returns)
