-- `step_reads::flip_finite` meets its contract: the tests read the basic values alone. Assumes nothing.
use borrow.Author.Rules.{rules}
use mathlib.Core.Path.{sym, ◌∙◌}
use native.Mathlib.Omega.{arith}
use Rattle.doubles.specs.Limits.{max_rows}
use Rattle.sparse.specs.Scattered.{sv}
use Rattle.step_numbers.proofs.Parts.{listing_in, flip_finite_part}
use Rattle.state.specs.Packed.{state_at, basic_var_vals_at}
use Rattle.step_reads.proofs.flip_finite.Statement.{statement}
use Rattle.step_reads.proofs.flip_finite.Tie as tie

sub-flip-finite : tie.Need-slice_bounds-flip_finite-count
sub-flip-finite c = search rules

part-flip-finite-start : tie.Need-slice_bounds-flip_finite-start
part-flip-finite-start c = search rules

part-flip-finite-end : tie.Need-slice_bounds-flip_finite-end
part-flip-finite-end c = search rules

flip-finite-requires : tie.Need-flip_finite-requires
flip-finite-requires c κs = let s : tie.Start = search in listing_in basic_var_vals_at max_rows s.args.doubles.now (omega (arith, s.requires.0)) s.requires.1

returns : tie.Need-returns
returns c P N m =
    let s : tie.Start = search in
    let a = s.args in
    c.flip_finite.ensures P m ∙ sym (flip_finite_part P P (state_at N a.doubles.now a.at) a.e (sv a.values.now m a.list.now a.count) a.value a.diff)

pub flip_finite_spec : {M : Type 1} → statement M
flip_finite_spec =
    tie.close
    (tie.spec
    sub-flip-finite
    part-flip-finite-start
    part-flip-finite-end
    flip-finite-requires
    returns)
