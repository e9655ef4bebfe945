-- `fix_kept::numbers_fine` meets its contract: workspace, factor, objective. Assumes nothing.
use mathlib.Core.Path.{◌≡◌, sym, ◌∙◌}
use mathlib.Core.Bool.{true, not, ◌||◌}
use mathlib.Core.List.{[]}
use lib.Dec.{eqb}
use borrow.Author.Rules.{rules}
use borrow.Author.Tests.{not-true, not-false}
use Rattle.state.specs.Packed.{packed}
use Rattle.fix_rules.specs.Kept.{workspace_finite, factor_finite}
use Rattle.fix_kept.specs.Rest.{numbers_fine}
use Rattle.fix_kept.proofs.numbers_fine.Statement.{statement}
use Rattle.fix_kept.proofs.numbers_fine.Tie as tie

-- the tests passed so far
of_workspace : (e : tie.Else-not-workspace_finite) → let s : tie.Start = search in let g = s.args in
    workspace_finite g.n g.m g.entries (packed [] g.doubles.now) ≡ true
of_workspace e = sym e.workspace_finite.ensures ∙ not-false _ e.if-not-workspace_finite.false-raw

of_factor_holds : (e : tie.Else-not-kept_finite) → let s : tie.Start = search in let g = s.args in
    not (eqb g.cell 1) || factor_finite g.m g.factor_numbers.now g.factor_coeffs.now ≡ true
of_factor_holds e = sym e.kept_finite.ensures ∙ not-false _ e.if-not-kept_finite.false-raw

workspace-finite-requires : tie.Need-workspace_finite-requires
workspace-finite-requires c κs = search rules

returns : tie.Need-returns-then-not-workspace_finite
unfolding numbers_fine
returns c = rw (sym c.workspace_finite.ensures ∙ not-true _ c.if-not-workspace_finite.true-raw)

kept-finite-requires : tie.Need-kept_finite-requires
kept-finite-requires c κs = search rules

returns-2 : tie.Need-returns-then-not-kept_finite
unfolding numbers_fine
returns-2 c =
    let e1 : tie.Else-not-workspace_finite = search in
    rw (of_workspace e1, sym c.kept_finite.ensures ∙ not-true _ c.if-not-kept_finite.true-raw)

shared-slice-read-is-finite : tie.Need-bounds-doubles-4672
shared-slice-read-is-finite c = search rules

is-finite-requires : tie.Need-is_finite-requires
is-finite-requires c κs = search rules

returns-3 : tie.Need-returns
unfolding numbers_fine
returns-3 c =
    let e1 : tie.Else-not-workspace_finite = search in
    let e2 : tie.Else-not-kept_finite = search in
    rw (of_workspace e1, of_factor_holds e2) c.is_finite.ensures

pub numbers_fine_spec : {M : Type 1} → statement M
numbers_fine_spec =
    tie.close
    (tie.spec
    workspace-finite-requires
    returns
    kept-finite-requires
    returns-2
    shared-slice-read-is-finite
    is-finite-requires
    returns-3)
