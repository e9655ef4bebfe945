-- `step_reads::ratio` meets its contract: the ratio reads just the sections that are lent on. Assumes nothing.
use borrow.Author.Rules.{rules}
use mathlib.Core.Path.{sym, ◌∙◌}
use Rattle.sparse.specs.Scattered.{sv}
use Rattle.rules.specs.Parts.{bounded}
use Rattle.step_ratio.proofs.Parts.{ratio_part}
use Rattle.state.specs.Packed.{packed}
use Rattle.step_reads.proofs.Laws.{stepping_part}
use Rattle.step_reads.proofs.ratio.Statement.{statement}
use Rattle.step_reads.proofs.ratio.Tie as tie

sub-ratio : tie.Need-slice_bounds-ratio-count
sub-ratio c = search rules

part-ratio-start : tie.Need-slice_bounds-ratio-start
part-ratio-start c = search rules

part-ratio-end : tie.Need-slice_bounds-ratio-end
part-ratio-end c = search rules

sub-ratio-2 : tie.Need-slice_bounds-ratio-count-2
sub-ratio-2 c = search rules

part-ratio-start-2 : tie.Need-slice_bounds-ratio-start-2
part-ratio-start-2 c = search rules

part-ratio-end-2 : tie.Need-slice_bounds-ratio-end-2
part-ratio-end-2 c = search rules

sub-ratio-3 : tie.Need-slice_bounds-ratio-count-3
sub-ratio-3 c = search rules

part-ratio-start-3 : tie.Need-slice_bounds-ratio-start-3
part-ratio-start-3 c = search rules

part-ratio-end-3 : tie.Need-slice_bounds-ratio-end-3
part-ratio-end-3 c = search rules

sub-ratio-4 : tie.Need-slice_bounds-ratio-count-4
sub-ratio-4 c = search rules

part-ratio-start-4 : tie.Need-slice_bounds-ratio-start-4
part-ratio-start-4 c = search rules

part-ratio-end-4 : tie.Need-slice_bounds-ratio-end-4
part-ratio-end-4 c = search rules

sub-ratio-5 : tie.Need-slice_bounds-ratio-count-5
sub-ratio-5 c = search rules

part-ratio-start-5 : tie.Need-slice_bounds-ratio-start-5
part-ratio-start-5 c = search rules

part-ratio-end-5 : tie.Need-slice_bounds-ratio-end-5
part-ratio-end-5 c = search rules

ratio-requires : tie.Need-ratio-requires
ratio-requires c κs = let s : tie.Start = search in stepping_part s.requires.1

returns : tie.Need-returns
returns c m =
    let s : tie.Start = search in
    let a = s.args in
    c.ratio.ensures m ∙ sym (ratio_part (bounded a.n a.lowers.now a.uppers.now a.ops.now a.kept.now) (packed a.numbers.now a.doubles.now) a.e (sv a.values.now m a.list.now a.count))

pub ratio_spec : {M : Type 1} → statement M
ratio_spec =
    tie.close
    (tie.spec
    sub-ratio
    part-ratio-start
    part-ratio-end
    sub-ratio-2
    part-ratio-start-2
    part-ratio-end-2
    sub-ratio-3
    part-ratio-start-3
    part-ratio-end-3
    sub-ratio-4
    part-ratio-start-4
    part-ratio-end-4
    sub-ratio-5
    part-ratio-start-5
    part-ratio-end-5
    ratio-requires
    returns)
