-- `step_reads::numbers_finite` meets its contract: the tests read basic values, prices and norms alone. Assumes
-- nothing.
use borrow.Author.Rules.{rules}
use mathlib.Core.Path.{sym, ◌∙◌}
use native.Mathlib.Omega.{arith}
use Rattle.doubles.specs.Limits.{max_rows, max_columns}
use Rattle.sparse.specs.Scattered.{sv, sv_of}
use Rattle.step_numbers.proofs.Parts.{listing_in, numbers_finite_part}
use Rattle.state.specs.Packed.{state_at, basic_var_vals_at, prices_at, norms_at}
use Rattle.step_reads.proofs.numbers_finite.Statement.{statement}
use Rattle.step_reads.proofs.numbers_finite.Tie as tie

sub-numbers-finite : tie.Need-slice_bounds-numbers_finite-count
sub-numbers-finite c = search rules

part-numbers-finite-start : tie.Need-slice_bounds-numbers_finite-start
part-numbers-finite-start c = search rules

part-numbers-finite-end : tie.Need-slice_bounds-numbers_finite-end
part-numbers-finite-end c = search rules

sub-numbers-finite-2 : tie.Need-slice_bounds-numbers_finite-count-2
sub-numbers-finite-2 c = search rules

part-numbers-finite-start-2 : tie.Need-slice_bounds-numbers_finite-start-2
part-numbers-finite-start-2 c = search rules

part-numbers-finite-end-2 : tie.Need-slice_bounds-numbers_finite-end-2
part-numbers-finite-end-2 c = search rules

sub-numbers-finite-3 : tie.Need-slice_bounds-numbers_finite-count-3
sub-numbers-finite-3 c = search rules

part-numbers-finite-start-3 : tie.Need-slice_bounds-numbers_finite-start-3
part-numbers-finite-start-3 c = search rules

part-numbers-finite-end-3 : tie.Need-slice_bounds-numbers_finite-end-3
part-numbers-finite-end-3 c = search rules

numbers-finite-requires : tie.Need-numbers_finite-requires
numbers-finite-requires c κs = let s : tie.Start = search in let d = s.args.doubles.now in
    let p = s.requires.0 in (
      (listing_in basic_var_vals_at max_rows d (omega (arith, p.0)) p.1, s.requires.1),
      (
        listing_in prices_at max_columns d (omega (arith, p.0)) p.2,
        listing_in norms_at max_columns d (omega (arith, p.0)) p.2,
      ),
    )

returns : tie.Need-returns
returns c P N m rm p =
    let s : tie.Start = search in
    let a = s.args in
    let x = a.x in
    c.numbers_finite.ensures P m rm p
    ∙ sym
    (numbers_finite_part P P (state_at N a.doubles.now a.at) a.e
    (sv a.values.now m a.list.now a.count) x.value x.diff
    (sv a.row_values.now rm a.row_list.now a.row_count) (sv_of a.helper.now p) x.row x.pivot
    x.leaving)

pub numbers_finite_spec : {M : Type 1} → statement M
numbers_finite_spec =
    tie.close
    (tie.spec
    sub-numbers-finite
    part-numbers-finite-start
    part-numbers-finite-end
    sub-numbers-finite-2
    part-numbers-finite-start-2
    part-numbers-finite-end-2
    sub-numbers-finite-3
    part-numbers-finite-start-3
    part-numbers-finite-end-3
    numbers-finite-requires
    returns)
