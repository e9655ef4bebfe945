-- `step_numbers::flip_finite` meets its contract: each test is the definition's, in its order. Assumes nothing.
use mathlib.Core.Path.{sym, ap, ◌∙◌}
use borrow.Author.Tests.{not-true, not-false}
use Rattle.doubles.specs.Num.{finite}
use Rattle.rules.specs.Pivot.{new_objective, flip_finite}
use Rattle.step_numbers.proofs.Laws.{fails, passes}
use Rattle.step_numbers.proofs.flip_finite.Statement.{statement}
use Rattle.step_numbers.proofs.flip_finite.Tie as tie

new-objective-requires : tie.Need-new_objective-requires
new-objective-requires c κs = tt

is-finite-requires : tie.Need-is_finite-requires
is-finite-requires c κs = tt

returns : tie.Need-returns-then-not-is_finite
unfolding flip_finite new_objective
returns c =
    let o : tie.After-new_objective = search in
    let d : tie.After-is_finite = search in
    λ _ _. sym (fails _ (fails _ (ap finite (sym o.new_objective.ensures) ∙ sym d.is_finite.ensures ∙ not-true _ c.if-not-is_finite.true-raw)))

is-finite-requires-2 : tie.Need-is_finite-requires-2
is-finite-requires-2 c κs = tt

returns-2 : tie.Need-returns-then-not-is_finite-2
unfolding flip_finite new_objective
returns-2 c =
    let o : tie.After-new_objective = search in
    let d : tie.After-is_finite = search in
    let x : tie.Else-not-is_finite = search in
    let d2 : tie.After-is_finite-2 = search in
    λ _ _. sym (fails _ (passes (ap finite (sym o.new_objective.ensures) ∙ sym d.is_finite.ensures ∙ not-false _ x.if-not-is_finite.false-raw) (sym d2.is_finite-2.ensures ∙ not-true _ c.if-not-is_finite-2.true-raw)))

moved-finite-requires : tie.Need-moved_finite-requires
moved-finite-requires c κs = let s : tie.Start = search in s.requires

returns-3 : tie.Need-returns
unfolding flip_finite new_objective
returns-3 c =
    let o : tie.After-new_objective = search in
    let d : tie.After-is_finite = search in
    let x : tie.Else-not-is_finite = search in
    let d2 : tie.After-is_finite-2 = search in
    let x2 : tie.Else-not-is_finite-2 = search in
    λ _ m.
    sym (passes
    (passes (ap finite (sym o.new_objective.ensures) ∙ sym d.is_finite.ensures ∙ not-false _ x.if-not-is_finite.false-raw) (sym d2.is_finite-2.ensures ∙ not-false _ x2.if-not-is_finite-2.false-raw))
    (sym (c.moved_finite.ensures m)))

pub flip_finite_spec : {M : Type 1} → statement M
flip_finite_spec =
    tie.close
    (tie.spec
    new-objective-requires
    is-finite-requires
    returns
    is-finite-requires-2
    returns-2
    moved-finite-requires
    returns-3)
