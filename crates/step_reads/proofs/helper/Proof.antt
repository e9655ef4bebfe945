-- `step_reads::helper` meets its contract: the solve reads the maps, the eta store and the factor alone. Assumes
-- nothing.
use borrow.Author.Rules.{rules}
use Rattle.rules.specs.Basis.{helper_of}
use Rattle.basis_solves.proofs.Laws.{row_untimed}
use Rattle.step_reads.proofs.helper.Statement.{statement}
use Rattle.step_reads.proofs.helper.Tie as tie

sub-helper : tie.Need-slice_bounds-helper-count
sub-helper c = search rules

part-helper-start : tie.Need-slice_bounds-helper-start
part-helper-start c = search rules

part-helper-end : tie.Need-slice_bounds-helper-end
part-helper-end c = search rules

sub-helper-2 : tie.Need-slice_bounds-helper-count-2
sub-helper-2 c = search rules

part-helper-start-2 : tie.Need-slice_bounds-helper-start-2
part-helper-start-2 c = search rules

part-helper-end-2 : tie.Need-slice_bounds-helper-end-2
part-helper-end-2 c = search rules

sub-helper-3 : tie.Need-slice_bounds-helper-count-3
sub-helper-3 c = search rules

part-helper-start-3 : tie.Need-slice_bounds-helper-start-3
part-helper-start-3 c = search rules

part-helper-end-3 : tie.Need-slice_bounds-helper-end-3
part-helper-end-3 c = search rules

sub-helper-4 : tie.Need-slice_bounds-helper-count-4
sub-helper-4 c = search rules

part-helper-start-4 : tie.Need-slice_bounds-helper-start-4
part-helper-start-4 c = search rules

part-helper-end-4 : tie.Need-slice_bounds-helper-end-4
part-helper-end-4 c = search rules

sub-helper-5 : tie.Need-slice_bounds-helper-count-5
sub-helper-5 c = search rules

part-helper-start-5 : tie.Need-slice_bounds-helper-start-5
part-helper-start-5 c = search rules

part-helper-end-5 : tie.Need-slice_bounds-helper-end-5
part-helper-end-5 c = search rules

helper-requires : tie.Need-helper-requires
helper-requires c κs =
    let s : tie.Start = search in
    ((s.requires.0.1, s.requires.0.2, s.requires.0.3), row_untimed s.requires.1)

returns : tie.Need-returns
unfolding helper_of
returns c m = let s : tie.Start = search in c.helper.ensures s.args.at.factorings m

pub helper_spec : {M : Type 1} → statement M
helper_spec =
    tie.close
    (tie.spec
    sub-helper
    part-helper-start
    part-helper-end
    sub-helper-2
    part-helper-start-2
    part-helper-end-2
    sub-helper-3
    part-helper-start-3
    part-helper-end-3
    sub-helper-4
    part-helper-start-4
    part-helper-end-4
    sub-helper-5
    part-helper-start-5
    part-helper-end-5
    helper-requires
    returns)
