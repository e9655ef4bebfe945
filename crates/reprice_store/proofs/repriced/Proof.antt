-- `reprice_store::repriced` meets its contract: the matrix by columns, then the part with no eta column or with some.
-- Assumes nothing.
use borrow.Author.Rules.{rules}
use native.Mathlib.Omega.{arith}
use Rattle.rules.specs.Plan.{Problem, State}
use Rattle.state.specs.Packed.{state_in}
use Rattle.reprice_prices.specs.Lent.{priced_of}
use Rattle.reprice_store.specs.Lent.{PricingBy}
use Rattle.reprice_store.proofs.Laws.{transposes, by_columns, prices_asks, factor_asks, ends_as_it_is, ends_anew}
use Rattle.reprice_store.proofs.repriced.Statement.{statement}
use Rattle.reprice_store.proofs.repriced.Tie as tie

-- the problem and the state at entry
abbrev Q : tie.Start → Problem
Q s = let a = s.args in priced_of a.n a.costs.now a.starts.now a.cols.now a.coeffs.now a.kept.now

abbrev S : tie.Start → State
S s =
    let a = s.args in
    state_in a.numbers.now a.doubles.now a.factor_numbers.now a.factor_coeffs.now a.at

abbrev entry : tie.After-by_columns → tie.Start
entry b = search

abbrev none-at : tie.After-as_it_is → tie.Then-at-eq0
none-at r = search

abbrev some_at : tie.After-anew → tie.Else-at-eq0
some_at r = search

-- the same, lent by columns
lent_by : (b : tie.After-by_columns) → let a = (entry b).args in
    let l = b.by_columns.new in
    PricingBy a.n a.costs.now a.kept.now l.cstarts l.crows l.ccoeffs a.numbers.now a.doubles.now
    a.factor_numbers.now a.factor_coeffs.now a.at
lent_by b =
    let p = (entry b).requires in
    by_columns p b.by_columns.ensures.0
    (omega (arith, b.by_columns.ensures.1, p.problem_fits.plan.columns_most))

by-columns-requires : tie.Need-by_columns-requires
by-columns-requires c κs =
    let s : tie.Start = search in
    (transposes s.requires, search)

slice-aggregate-as-it-is : tie.Need-slice_bounds-as_it_is-end
slice-aggregate-as-it-is c = search rules

slice-aggregate-as-it-is-2 : tie.Need-slice_bounds-as_it_is-end-then-at-eq0
slice-aggregate-as-it-is-2 c = search rules

slice-aggregate-as-it-is-3 : tie.Need-slice_bounds-as_it_is-end-then-at-eq0-2
slice-aggregate-as-it-is-3 c = search rules

as-it-is-requires : tie.Need-as_it_is-requires
as-it-is-requires c κs =
    let b : tie.After-by_columns = search in
    (prices_asks (lent_by b), factor_asks (lent_by b))

same_length : tie.Need-shape_of-numbers-then-at-eq0
same_length c = search rules

same-length-2 : tie.Need-shape_of-doubles-then-at-eq0
same-length-2 c = search rules

same-length-3 : tie.Need-shape_of-factor_numbers-then-at-eq0
same-length-3 c = search rules

same-length-4 : tie.Need-shape_of-factor_coeffs-then-at-eq0
same-length-4 c = search rules

returns : tie.Need-returns-then-at-eq0
returns c =
    let b : tie.After-by_columns = search in
    let s = entry b in
    let r : tie.After-as_it_is = search in
    ends_as_it_is (Q s) (S s) (none-at r).if-at-eq0.true (r.as_it_is.ensures _ _ _ b.by_columns.ensures.0)

slice-aggregate-anew : tie.Need-slice_bounds-anew-end
slice-aggregate-anew c = search rules

slice-aggregate-anew-2 : tie.Need-slice_bounds-anew-end-2
slice-aggregate-anew-2 c = search rules

slice-aggregate-anew-3 : tie.Need-slice_bounds-anew-end-3
slice-aggregate-anew-3 c = search rules

anew-requires : tie.Need-anew-requires
anew-requires c κs = let b : tie.After-by_columns = search in lent_by b

same-length-5 : tie.Need-shape_of-numbers
same-length-5 c = search rules

same-length-6 : tie.Need-shape_of-doubles
same-length-6 c = search rules

same-length-7 : tie.Need-shape_of-factor_numbers
same-length-7 c = search rules

same-length-8 : tie.Need-shape_of-factor_coeffs
same-length-8 c = search rules

returns-2 : tie.Need-returns
returns-2 c =
    let b : tie.After-by_columns = search in
    let s = entry b in
    let r : tie.After-anew = search in
    ends_anew (Q s) (S s) (some_at r).if-at-eq0.false (r.anew.ensures _ _ _ b.by_columns.ensures.0)

pub repriced_spec : {M : Type 1} → statement M
repriced_spec =
    tie.close
    (tie.spec
    by-columns-requires
    slice-aggregate-as-it-is
    slice-aggregate-as-it-is-2
    slice-aggregate-as-it-is-3
    as-it-is-requires
    same_length
    same-length-2
    same-length-3
    same-length-4
    returns
    slice-aggregate-anew
    slice-aggregate-anew-2
    slice-aggregate-anew-3
    anew-requires
    same-length-5
    same-length-6
    same-length-7
    same-length-8
    returns-2)
