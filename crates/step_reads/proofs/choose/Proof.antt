-- `step_reads::choose` meets its contract: the choice reads just the sections that are lent on. Assumes nothing.
use borrow.Author.Rules.{rules}
use mathlib.Core.Path.{sym, ◌∙◌}
use Rattle.rules.specs.Parts.{bounded}
use Rattle.step_choose.proofs.Parts.{choose_part}
use Rattle.state.specs.Packed.{packed}
use Rattle.step_reads.proofs.Laws.{choosing_part}
use Rattle.step_reads.proofs.choose.Statement.{statement}
use Rattle.step_reads.proofs.choose.Tie as tie

sub-choose : tie.Need-slice_bounds-choose-count
sub-choose c = search rules

part-choose-start : tie.Need-slice_bounds-choose-start
part-choose-start c = search rules

part-choose-end : tie.Need-slice_bounds-choose-end
part-choose-end c = search rules

sub-choose-2 : tie.Need-slice_bounds-choose-count-2
sub-choose-2 c = search rules

part-choose-start-2 : tie.Need-slice_bounds-choose-start-2
part-choose-start-2 c = search rules

part-choose-end-2 : tie.Need-slice_bounds-choose-end-2
part-choose-end-2 c = search rules

sub-choose-3 : tie.Need-slice_bounds-choose-count-3
sub-choose-3 c = search rules

part-choose-start-3 : tie.Need-slice_bounds-choose-start-3
part-choose-start-3 c = search rules

part-choose-end-3 : tie.Need-slice_bounds-choose-end-3
part-choose-end-3 c = search rules

sub-choose-4 : tie.Need-slice_bounds-choose-count-4
sub-choose-4 c = search rules

part-choose-start-4 : tie.Need-slice_bounds-choose-start-4
part-choose-start-4 c = search rules

part-choose-end-4 : tie.Need-slice_bounds-choose-end-4
part-choose-end-4 c = search rules

sub-choose-5 : tie.Need-slice_bounds-choose-count-5
sub-choose-5 c = search rules

part-choose-start-5 : tie.Need-slice_bounds-choose-start-5
part-choose-start-5 c = search rules

part-choose-end-5 : tie.Need-slice_bounds-choose-end-5
part-choose-end-5 c = search rules

choose-requires : tie.Need-choose-requires
choose-requires c κs = let s : tie.Start = search in choosing_part s.requires.1

returns : tie.Need-returns
returns c = let s : tie.Start = search in let a = s.args in c.choose.ensures ∙ sym (choose_part (bounded a.n a.lowers.now a.uppers.now a.ops.now a.kept.now) (packed a.numbers.now a.doubles.now))

pub choose_spec : {M : Type 1} → statement M
choose_spec =
    tie.close
    (tie.spec
    sub-choose
    part-choose-start
    part-choose-end
    sub-choose-2
    part-choose-start-2
    part-choose-end-2
    sub-choose-3
    part-choose-start-3
    part-choose-end-3
    sub-choose-4
    part-choose-start-4
    part-choose-end-4
    sub-choose-5
    part-choose-start-5
    part-choose-end-5
    choose-requires
    returns)
