-- `reprice_prices::as_it_is` meets its contract: the multipliers of the state as it stands, then the pricing. Assumes
-- nothing.
use mathlib.Core.Path.{refl, ap, ◌∙◌}
use lib.ListN.{length}
use Rattle.reprice_prices.proofs.Laws.{wanted_long, end_is, basics_long}
use borrow.Author.Rules.{rules}
use Rattle.reprice_prices.proofs.as_it_is.Statement.{statement}
use Rattle.reprice_prices.proofs.as_it_is.Tie as tie

sub-multipliers : tie.Need-slice_bounds-multipliers-count
sub-multipliers c = search rules

part-multipliers-start : tie.Need-slice_bounds-multipliers-start
part-multipliers-start c = search rules

part-multipliers-end : tie.Need-slice_bounds-multipliers-end
part-multipliers-end c = search rules

multipliers-requires : tie.Need-multipliers-requires
multipliers-requires c κs =
    let s : tie.Start = search in
    let p = s.requires.0 in
    ((p.costs_long, p.rows_most, basics_long p, refl), s.requires.1)

priced-requires : tie.Need-priced-requires
priced-requires c κs =
    let s : tie.Start = search in
    let b : tie.After-multipliers = search in
    let a = s.args in
    let l =
    wanted_long a.n a.costs.now a.kept.now _ a.factor_numbers.now a.factor_coeffs.now
    a.at.factored s.requires.0.rows_most in
    (s.requires.0, ap length b.multipliers.ensures ∙ l)

same_length : tie.Need-shape_of-doubles
same_length c = search rules

returns : tie.Need-returns
returns c st co cf m =
    let s : tie.Start = search in
    let b : tie.After-multipliers = search in
    let q : tie.After-priced = search in
    let a = s.args in
    q.priced.ensures st co cf m a.factor_numbers.now a.factor_coeffs.now
    ∙ end_is a.n a.costs.now a.kept.now _ a.factor_numbers.now a.factor_coeffs.now
    st co cf a.numbers.now a.doubles.now a.at refl b.multipliers.ensures

pub as_it_is_spec : {M : Type 1} → statement M
as_it_is_spec =
    tie.close
    (tie.spec
    sub-multipliers
    part-multipliers-start
    part-multipliers-end
    multipliers-requires
    priced-requires
    same_length
    returns)
