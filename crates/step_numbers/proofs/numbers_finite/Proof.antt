-- `step_numbers::numbers_finite` meets its contract: each test is the definition's, in its order. Assumes nothing.
use mathlib.Core.Path.{sym, ap, ◌∙◌}
use borrow.Author.Tests.{not-true, not-false}
use Rattle.doubles.specs.Num.{finite}
use Rattle.sparse.specs.Scattered.{sv, sv_of}
use Rattle.rules.specs.Pivot.{stores_finite, new_objective, new_val, moved_val, new_price, new_norm, numbers_finite}
use Rattle.step_numbers.specs.Lent.{numbers_of}
use Rattle.step_numbers.proofs.Laws.{fails, passes, norm_is}
use Rattle.step_numbers.proofs.numbers_finite.Statement.{statement}
use Rattle.step_numbers.proofs.numbers_finite.Tie as tie

new-objective-requires : tie.Need-new_objective-requires
new-objective-requires c κs = tt

is-finite-requires : tie.Need-is_finite-requires
is-finite-requires c κs = tt

returns : tie.Need-returns-then-not-is_finite
unfolding numbers_finite new_objective new_val moved_val new_price new_norm
returns c =
    let d1 = c.before in
    let o = d1.before in
    λ _ m rm p. sym (fails _ (fails _ (fails _ (fails _ (ap finite (sym o.new_objective.ensures) ∙ sym d1.is_finite.ensures ∙ not-true _ c.if-not-is_finite.true-raw)))))

vals-finite-requires : tie.Need-vals_finite-requires
vals-finite-requires c κs = let s : tie.Start = search in s.requires.0.0

returns-2 : tie.Need-returns-then-not-vals_finite
unfolding numbers_finite new_objective new_val moved_val new_price new_norm
returns-2 c =
    let d2 = c.before in
    let x1 = d2.before in
    let d1 = x1.before in
    let o = d1.before in
    λ _ m rm p. sym (fails _ (fails _ (fails _ (passes (ap finite (sym o.new_objective.ensures) ∙ sym d1.is_finite.ensures ∙ not-false _ x1.if-not-is_finite.false-raw) (sym (d2.vals_finite.ensures m) ∙ not-true _ c.if-not-vals_finite.true-raw)))))

is-finite-requires-2 : tie.Need-is_finite-requires-2
is-finite-requires-2 c κs = tt

returns-3 : tie.Need-returns-then-not-is_finite-2
unfolding numbers_finite new_objective new_val moved_val new_price new_norm
returns-3 c =
    let d3 = c.before in
    let x2 = d3.before in
    let d2 = x2.before in
    let x1 = d2.before in
    let d1 = x1.before in
    let o = d1.before in
    λ _ m rm p. sym (fails _ (fails _ (passes (passes (ap finite (sym o.new_objective.ensures) ∙ sym d1.is_finite.ensures ∙ not-false _ x1.if-not-is_finite.false-raw) (sym (d2.vals_finite.ensures m) ∙ not-false _ x2.if-not-vals_finite.false-raw)) (sym d3.is_finite-2.ensures ∙ not-true _ c.if-not-is_finite-2.true-raw))))

prices-finite-requires : tie.Need-prices_finite-requires
prices-finite-requires c κs = let s : tie.Start = search in s.requires.1.0

returns-4 : tie.Need-returns-then-not-prices_finite
unfolding numbers_finite new_objective new_val moved_val new_price new_norm
returns-4 c =
    let d4 = c.before in
    let x3 = d4.before in
    let d3 = x3.before in
    let x2 = d3.before in
    let d2 = x2.before in
    let x1 = d2.before in
    let d1 = x1.before in
    let o = d1.before in
    λ _ m rm p. sym (fails _ (passes (passes (passes (ap finite (sym o.new_objective.ensures) ∙ sym d1.is_finite.ensures ∙ not-false _ x1.if-not-is_finite.false-raw) (sym (d2.vals_finite.ensures m) ∙ not-false _ x2.if-not-vals_finite.false-raw)) (sym d3.is_finite-2.ensures ∙ not-false _ x3.if-not-is_finite-2.false-raw)) (sym (d4.prices_finite.ensures rm) ∙ not-true _ c.if-not-prices_finite.true-raw)))

norms-finite-requires : tie.Need-norms_finite-requires
norms-finite-requires c κs = let s : tie.Start = search in s.requires.1.1

returns-5 : tie.Need-returns
unfolding numbers_finite new_objective new_val moved_val new_price new_norm
returns-5 c =
    let x4 = c.before in
    let d4 = x4.before in
    let x3 = d4.before in
    let d3 = x3.before in
    let x2 = d3.before in
    let d2 = x2.before in
    let x1 = d2.before in
    let d1 = x1.before in
    let o = d1.before in
    let s : tie.Start = search in
    let a = s.args in
    λ _ m rm p. sym
    (passes
    (passes
    (passes
    (passes (ap finite (sym o.new_objective.ensures) ∙ sym d1.is_finite.ensures ∙ not-false _ x1.if-not-is_finite.false-raw)
    (sym (d2.vals_finite.ensures m) ∙ not-false _ x2.if-not-vals_finite.false-raw))
    (sym d3.is_finite-2.ensures ∙ not-false _ x3.if-not-is_finite-2.false-raw))
    (sym (d4.prices_finite.ensures rm) ∙ not-false _ x4.if-not-prices_finite.false-raw))
    (sym (c.norms_finite.ensures rm ∙ ap (stores_finite (sv a.row_values.now rm a.row_list.now a.row_count))
    (norm_is (numbers_of a.basic_var_vals.now a.prices.now a.norms.now) a.pivot a.sq a.e
    (sv a.values.now m a.list.now a.count) (sv a.row_values.now rm a.row_list.now a.row_count)
    (sv_of a.helper.now p) (s.requires.0.1 m)))))

pub numbers_finite_spec : {M : Type 1} → statement M
numbers_finite_spec =
    tie.close
    (tie.spec
    new-objective-requires
    is-finite-requires
    returns
    vals-finite-requires
    returns-2
    is-finite-requires-2
    returns-3
    prices-finite-requires
    returns-4
    norms-finite-requires
    returns-5)
