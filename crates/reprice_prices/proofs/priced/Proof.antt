-- `reprice_prices::priced` meets its contract: prices and objective are worked out, tested and stored. Assumes nothing.
use mathlib.Core.Path.{◌≡◌, ap, ◌∙◌}
use mathlib.Core.List.{List}
use Prim.Native.Nat.{◌≤◌}
use native.Mathlib.Omega.{arith}
use lib.ListN.{length}
use lib.Ieee.{Float}
use borrow.Author.Tests.{not-true, not-false}
use Rattle.doubles.specs.Limits.{max_columns}
use Rattle.reprice_numbers.proofs.Laws.{scratch_long}
use Rattle.reprice_prices.proofs.Laws.{places_long, sums_lent, ends_wild, ends_priced}
use borrow.Author.Rules.{rules}
use Rattle.reprice_prices.proofs.priced.Statement.{statement}
use Rattle.reprice_prices.proofs.priced.Tie as tie

-- the way back to the entry, and the prices that were worked out
abbrev entry : tie.After-prices → tie.Start
entry b = b.before.before.before.before.before.before.before.before.before.before

abbrev fresh : tie.After-prices → List Float
fresh b = b.prices.new.out

fresh_long : (b : tie.After-prices) → (entry b).args.n ≤ length (fresh b)
fresh_long b =
    let p = (entry b).requires.0 in
    let n = (entry b).args.n in
    let l : length (fresh b) ≡ max_columns =
    ap length b.prices.ensures ∙ scratch_long n max_columns _ p.columns_most in
    omega (arith, l, p.columns_most)

sub-prices : tie.Need-slice_bounds-prices-count
sub-prices c = search rules

part-prices-start : tie.Need-slice_bounds-prices-start
part-prices-start c = search rules

part-prices-end : tie.Need-slice_bounds-prices-end
part-prices-end c = search rules

prices-requires : tie.Need-prices-requires
prices-requires c κs =
    let s : tie.Start = search in
    let p = s.requires.0 in (
      (p.costs_long, p.columns_most, places_long p, p.columns_most),
      (s.requires.1, sums_lent p),
    )

sub-objective : tie.Need-slice_bounds-objective-count
sub-objective c = search rules

part-objective-start : tie.Need-slice_bounds-objective-start
part-objective-start c = search rules

part-objective-end : tie.Need-slice_bounds-objective-end
part-objective-end c = search rules

sub-objective-2 : tie.Need-slice_bounds-objective-count-2
sub-objective-2 c = search rules

part-objective-start-2 : tie.Need-slice_bounds-objective-start-2
part-objective-start-2 c = search rules

part-objective-end-2 : tie.Need-slice_bounds-objective-end-2
part-objective-end-2 c = search rules

sub-objective-3 : tie.Need-slice_bounds-objective-count-3
sub-objective-3 c = search rules

part-objective-start-3 : tie.Need-slice_bounds-objective-start-3
part-objective-start-3 c = search rules

part-objective-end-3 : tie.Need-slice_bounds-objective-end-3
part-objective-end-3 c = search rules

sub-objective-4 : tie.Need-slice_bounds-objective-count-4
sub-objective-4 c = search rules

part-objective-start-4 : tie.Need-slice_bounds-objective-start-4
part-objective-start-4 c = search rules

part-objective-end-4 : tie.Need-slice_bounds-objective-end-4
part-objective-end-4 c = search rules

objective-requires : tie.Need-objective-objective-requires
objective-requires c κs = search rules

numbers-finite-requires : tie.Need-numbers_finite-requires
numbers-finite-requires c κs =
    let s : tie.Start = search in
    let p = s.requires.0 in
    let b : tie.After-prices = search in
    (omega (arith, s.requires.1, p.rows_most), fresh_long b)

same_length : tie.Need-shape_of-doubles-then-not-numbers_finite
same_length c = search rules

returns : tie.Need-returns-then-not-numbers_finite
returns c st co cf m F G =
    let b : tie.After-prices = search in
    let o : tie.After-objective-objective = search in
    let f : tie.After-numbers_finite = search in
    let a = (entry b).args in
    ends_wild a.n a.costs.now st co cf a.kept.now a.cstarts.now a.crows.now a.ccoeffs.now m
    a.numbers.now a.doubles.now F G a.at a.y.now (fresh b) o.objective-objective.result
    f.numbers_finite.result b.prices.ensures o.objective-objective.ensures f.numbers_finite.ensures
    (not-true _ c.if-not-numbers_finite.true-raw)

sub-store-prices : tie.Need-slice_bounds-store_prices-count
sub-store-prices c = search rules

part-store-prices-start : tie.Need-slice_bounds-store_prices-start
part-store-prices-start c = search rules

part-store-prices-end : tie.Need-slice_bounds-store_prices-end
part-store-prices-end c = let s : tie.Start = search in omega (arith, s.requires.0.sized)

store-prices-requires : tie.Need-store_prices-requires
store-prices-requires c κs = search rules

same-length-2 : tie.Need-shape_of-doubles
same-length-2 c = search rules

returns-2 : tie.Need-returns
returns-2 c st co cf m F G =
    let b : tie.After-prices = search in
    let o : tie.After-objective-objective = search in
    let x : tie.Else-not-numbers_finite = search in
    let f = x.before in
    let e : tie.After-store_prices = search in
    let a = (entry b).args in
    ends_priced a.n a.costs.now st co cf a.kept.now a.cstarts.now a.crows.now a.ccoeffs.now m
    a.numbers.now a.doubles.now F G a.at a.y.now (fresh b) o.objective-objective.result
    f.numbers_finite.result b.prices.ensures o.objective-objective.ensures f.numbers_finite.ensures
    (entry b).requires.0.sized (not-false _ x.if-not-numbers_finite.false-raw) e.store_prices.new.prices
    e.store_prices.ensures e.store_prices.auto.prices

pub priced_spec : {M : Type 1} → statement M
priced_spec =
    tie.close
    (tie.spec
    sub-prices
    part-prices-start
    part-prices-end
    prices-requires
    sub-objective
    part-objective-start
    part-objective-end
    sub-objective-2
    part-objective-start-2
    part-objective-end-2
    sub-objective-3
    part-objective-start-3
    part-objective-end-3
    sub-objective-4
    part-objective-start-4
    part-objective-end-4
    objective-requires
    numbers-finite-requires
    same_length
    returns
    sub-store-prices
    part-store-prices-start
    part-store-prices-end
    store-prices-requires
    same-length-2
    returns-2)
