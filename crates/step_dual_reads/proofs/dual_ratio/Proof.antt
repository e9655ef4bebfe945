-- `step_dual_reads::dual_ratio` meets its contract: the ratio reads just the sections that are lent on. Assumes nothing.
use borrow.Author.Rules.{rules}
use mathlib.Core.Path.{sym, ◌∙◌}
use Rattle.sparse.specs.Scattered.{sv}
use Rattle.step_prices.proofs.Parts.{dual_ratio_part, pricing_part_holds}
use Rattle.state.specs.Packed.{packed}
use Rattle.step_dual_reads.proofs.dual_ratio.Statement.{statement}
use Rattle.step_dual_reads.proofs.dual_ratio.Tie as tie

sub-dual-ratio : tie.Need-slice_bounds-dual_ratio-count
sub-dual-ratio c = search rules

part-dual-ratio-start : tie.Need-slice_bounds-dual_ratio-start
part-dual-ratio-start c = search rules

part-dual-ratio-end : tie.Need-slice_bounds-dual_ratio-end
part-dual-ratio-end c = search rules

sub-dual-ratio-2 : tie.Need-slice_bounds-dual_ratio-count-2
sub-dual-ratio-2 c = search rules

part-dual-ratio-start-2 : tie.Need-slice_bounds-dual_ratio-start-2
part-dual-ratio-start-2 c = search rules

part-dual-ratio-end-2 : tie.Need-slice_bounds-dual_ratio-end-2
part-dual-ratio-end-2 c = search rules

sub-dual-ratio-3 : tie.Need-slice_bounds-dual_ratio-count-3
sub-dual-ratio-3 c = search rules

part-dual-ratio-start-3 : tie.Need-slice_bounds-dual_ratio-start-3
part-dual-ratio-start-3 c = search rules

part-dual-ratio-end-3 : tie.Need-slice_bounds-dual_ratio-end-3
part-dual-ratio-end-3 c = search rules

sub-dual-ratio-4 : tie.Need-slice_bounds-dual_ratio-count-4
sub-dual-ratio-4 c = search rules

part-dual-ratio-start-4 : tie.Need-slice_bounds-dual_ratio-start-4
part-dual-ratio-start-4 c = search rules

part-dual-ratio-end-4 : tie.Need-slice_bounds-dual_ratio-end-4
part-dual-ratio-end-4 c = search rules

dual-ratio-requires : tie.Need-dual_ratio-requires
dual-ratio-requires c κs = let s : tie.Start = search in pricing_part_holds s.requires.1

returns : tie.Need-returns
returns c m =
    let s : tie.Start = search in
    let a = s.args in
    c.dual_ratio.ensures m ∙ sym (dual_ratio_part a.still (packed a.numbers.now a.doubles.now) a.l (sv a.values.now m a.list.now a.count))

pub dual_ratio_spec : {M : Type 1} → statement M
dual_ratio_spec =
    tie.close
    (tie.spec
    sub-dual-ratio
    part-dual-ratio-start
    part-dual-ratio-end
    sub-dual-ratio-2
    part-dual-ratio-start-2
    part-dual-ratio-end-2
    sub-dual-ratio-3
    part-dual-ratio-start-3
    part-dual-ratio-end-3
    sub-dual-ratio-4
    part-dual-ratio-start-4
    part-dual-ratio-end-4
    dual-ratio-requires
    returns)
