-- `reprice_prices::numbers_finite` meets its contract: each test is the definition's. Assumes nothing.
use borrow.Author.Rules.{rules}
use mathlib.Core.Path.{sym, ◌∙◌}
use borrow.Author.Tests.{not-true, not-false}
use Rattle.reprice_prices.proofs.numbers_finite.Statement.{statement}
use Rattle.reprice_prices.proofs.numbers_finite.Tie as tie

all-finite-requires : tie.Need-all_finite-requires
all-finite-requires c κs = search rules

returns : tie.Need-returns-then-not-all_finite
returns c =
    let a : tie.After-all_finite = search in
    let t : tie.Then-not-all_finite = search in
    rw (sym a.all_finite.ensures ∙ not-true _ t.if-not-all_finite.true-raw)

all-finite-requires-2 : tie.Need-all_finite-requires-2
all-finite-requires-2 c κs = search rules

returns-2 : tie.Need-returns-then-not-all_finite-2
returns-2 c =
    let a : tie.After-all_finite = search in
    let x : tie.Else-not-all_finite = search in
    let b : tie.After-all_finite-2 = search in
    let t : tie.Then-not-all_finite-2 = search in
    let p = sym a.all_finite.ensures ∙ not-false _ x.if-not-all_finite.false-raw in
    let q = sym b.all_finite-2.ensures ∙ not-true _ t.if-not-all_finite-2.true-raw in
    rw (p, q)

is-finite-requires : tie.Need-is_finite-requires
is-finite-requires c κs = search rules

returns-3 : tie.Need-returns
returns-3 c =
    let a : tie.After-all_finite = search in
    let x : tie.Else-not-all_finite = search in
    let b : tie.After-all_finite-2 = search in
    let z : tie.Else-not-all_finite-2 = search in
    let f : tie.After-is_finite = search in
    let p = sym a.all_finite.ensures ∙ not-false _ x.if-not-all_finite.false-raw in
    let q = sym b.all_finite-2.ensures ∙ not-false _ z.if-not-all_finite-2.false-raw in
    f.is_finite.ensures ∙ rw (p, q)

pub numbers_finite_spec : {M : Type 1} → statement M
numbers_finite_spec =
    tie.close
    (tie.spec
    all-finite-requires
    returns
    all-finite-requires-2
    returns-2
    is-finite-requires
    returns-3)
