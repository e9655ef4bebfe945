-- `step_reads::tau` meets its contract: the solve reads the eta store and the factor alone. Assumes nothing.
use borrow.Author.Rules.{rules}
use Rattle.rules.specs.Basis.{tau_of}
use Rattle.basis_solves.proofs.Laws.{untimed}
use Rattle.step_reads.proofs.tau.Statement.{statement}
use Rattle.step_reads.proofs.tau.Tie as tie

sub-tau : tie.Need-slice_bounds-tau-count
sub-tau c = search rules

part-tau-start : tie.Need-slice_bounds-tau-start
part-tau-start c = search rules

part-tau-end : tie.Need-slice_bounds-tau-end
part-tau-end c = search rules

sub-tau-2 : tie.Need-slice_bounds-tau-count-2
sub-tau-2 c = search rules

part-tau-start-2 : tie.Need-slice_bounds-tau-start-2
part-tau-start-2 c = search rules

part-tau-end-2 : tie.Need-slice_bounds-tau-end-2
part-tau-end-2 c = search rules

sub-tau-3 : tie.Need-slice_bounds-tau-count-3
sub-tau-3 c = search rules

part-tau-start-3 : tie.Need-slice_bounds-tau-start-3
part-tau-start-3 c = search rules

part-tau-end-3 : tie.Need-slice_bounds-tau-end-3
part-tau-end-3 c = search rules

sub-tau-4 : tie.Need-slice_bounds-tau-count-4
sub-tau-4 c = search rules

part-tau-start-4 : tie.Need-slice_bounds-tau-start-4
part-tau-start-4 c = search rules

part-tau-end-4 : tie.Need-slice_bounds-tau-end-4
part-tau-end-4 c = search rules

tau-requires : tie.Need-tau-requires
tau-requires c κs =
    let s : tie.Start = search in
    let p = s.requires.1 in
    ((s.requires.0.1, s.requires.0.2, s.requires.0.3), (p.0, p.1, untimed p.2))

returns : tie.Need-returns
unfolding tau_of
returns c P b e = let s : tie.Start = search in c.tau.ensures P s.args.at.factorings b e

pub tau_spec : {M : Type 1} → statement M
tau_spec =
    tie.close
    (tie.spec
    sub-tau
    part-tau-start
    part-tau-end
    sub-tau-2
    part-tau-start-2
    part-tau-end-2
    sub-tau-3
    part-tau-start-3
    part-tau-end-3
    sub-tau-4
    part-tau-start-4
    part-tau-end-4
    tau-requires
    returns)
