-- `step_exchange::numbers_finite` meets its contract: each test is the definition's, in its order. Assumes nothing.
use mathlib.Core.Path.{sym, ◌∙◌}
use borrow.Author.Tests.{not-true, not-false}
use Rattle.step_numbers.proofs.Laws.{fails, passes}
use Rattle.step_exchange.proofs.numbers_finite.Statement.{statement}
use Rattle.step_exchange.proofs.numbers_finite.Tie as tie

listed-finite-requires : tie.Need-listed_finite-requires
listed-finite-requires c κs = let s : tie.Start = search in (s.requires.0.2.few, record { inside = s.requires.0.2.place })

returns : tie.Need-returns-then-not-listed_finite
returns c = λ _ _ m rm hm. sym (fails _ (fails _ (sym (c.listed_finite.ensures rm) ∙ not-true _ c.if-not-listed_finite.true-raw)))

listed-finite-requires-2 : tie.Need-listed_finite-requires-2
listed-finite-requires-2 c κs = let s : tie.Start = search in (s.requires.1.1, s.requires.1.2)

returns-2 : tie.Need-returns-then-not-listed_finite-2
returns-2 c =
    let x1 = c.before.before in
    λ _ _ m rm hm. sym (fails _ (passes (sym (x1.listed_finite.ensures rm) ∙ not-false _ x1.if-not-listed_finite.false-raw) (sym (c.listed_finite-2.ensures hm) ∙ not-true _ c.if-not-listed_finite-2.true-raw)))

numbers-finite-requires : tie.Need-numbers_finite-requires
numbers-finite-requires c κs = let s : tie.Start = search in (s.requires.0, s.requires.1.0.sum)

returns-3 : tie.Need-returns
returns-3 c =
    let x2 = c.before in
    let x1 = x2.before.before in
    λ P N m rm hm. sym (passes (passes (sym (x1.listed_finite.ensures rm) ∙ not-false _ x1.if-not-listed_finite.false-raw) (sym (x2.listed_finite-2.ensures hm) ∙ not-false _ x2.if-not-listed_finite-2.false-raw)) (sym (c.numbers_finite.ensures P N m rm _)))

pub numbers_finite_spec : {M : Type 1} → statement M
numbers_finite_spec =
    tie.close
    (tie.spec listed-finite-requires returns listed-finite-requires-2 returns-2 numbers-finite-requires returns-3)
