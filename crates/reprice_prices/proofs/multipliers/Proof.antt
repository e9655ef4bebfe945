-- `reprice_prices::multipliers` meets its contract: the costs of the basis, solved where there is a factor. Assumes
-- nothing.
use mathlib.Core.Path.{◌≡◌, ap, ◌∙◌}
use native.Mathlib.Omega.{arith}
use lib.ListN.{length, length-replicate}
use borrow.Author.Tests.{not-true, not-false}
use Rattle.doubles.specs.Num.{f0}
use Rattle.doubles.specs.Limits.{max_rows}
use Rattle.rules.specs.Parts.{factored_of}
use Rattle.reprice_numbers.proofs.Laws.{scratch_long}
use Rattle.reprice_prices.proofs.Laws.{dense_solid, bare_is, solved_is}
use borrow.Author.Rules.{rules}
use Rattle.reprice_prices.proofs.multipliers.Statement.{statement}
use Rattle.reprice_prices.proofs.multipliers.Tie as tie

basic-costs-requires : tie.Need-basic_costs-requires
basic-costs-requires c κs =
    let s : tie.Start = search in
    let o : length s.args.out.now ≡ max_rows = ap length s.requires.0.3 ∙ length-replicate max_rows f0 in
    (s.requires.0.0, s.requires.0.1, s.requires.0.2, omega (arith, o, s.requires.0.1))

returns : tie.Need-returns-then-not-at
returns c =
    let s : tie.Start = search in
    let t : tie.Then-not-at = search in
    let a = s.args in
    bare_is a.n a.costs.now a.kept.now a.basic_vars.now a.factor_numbers.now a.factor_coeffs.now
    a.at.factored (not-true _ t.if-not-at.true) s.requires.0.3 c.basic_costs.ensures

basic-costs-requires-2 : tie.Need-basic_costs-requires-2
basic-costs-requires-2 c κs = search rules

sub-solve-multipliers : tie.Need-slice_bounds-solve_multipliers-count
sub-solve-multipliers c = search rules

part-solve-multipliers-start : tie.Need-slice_bounds-solve_multipliers-start
part-solve-multipliers-start c = search rules

part-solve-multipliers-end : tie.Need-slice_bounds-solve_multipliers-end
part-solve-multipliers-end c = search rules

sub-solve-multipliers-2 : tie.Need-slice_bounds-solve_multipliers-count-2
sub-solve-multipliers-2 c = search rules

part-solve-multipliers-start-2 : tie.Need-slice_bounds-solve_multipliers-start-2
part-solve-multipliers-start-2 c = search rules

part-solve-multipliers-end-2 : tie.Need-slice_bounds-solve_multipliers-end-2
part-solve-multipliers-end-2 c = search rules

sub-solve-multipliers-3 : tie.Need-slice_bounds-solve_multipliers-count-3
sub-solve-multipliers-3 c = search rules

part-solve-multipliers-start-3 : tie.Need-slice_bounds-solve_multipliers-start-3
part-solve-multipliers-start-3 c = search rules

part-solve-multipliers-end-3 : tie.Need-slice_bounds-solve_multipliers-end-3
part-solve-multipliers-end-3 c = search rules

sub-solve-multipliers-4 : tie.Need-slice_bounds-solve_multipliers-count-4
sub-solve-multipliers-4 c = search rules

part-solve-multipliers-start-4 : tie.Need-slice_bounds-solve_multipliers-start-4
part-solve-multipliers-start-4 c = search rules

part-solve-multipliers-end-4 : tie.Need-slice_bounds-solve_multipliers-end-4
part-solve-multipliers-end-4 c = search rules

sub-solve-multipliers-5 : tie.Need-slice_bounds-solve_multipliers-count-5
sub-solve-multipliers-5 c = search rules

part-solve-multipliers-start-5 : tie.Need-slice_bounds-solve_multipliers-start-5
part-solve-multipliers-start-5 c = search rules

part-solve-multipliers-end-5 : tie.Need-slice_bounds-solve_multipliers-end-5
part-solve-multipliers-end-5 c = search rules

sub-solve-multipliers-6 : tie.Need-slice_bounds-solve_multipliers-count-6
sub-solve-multipliers-6 c = search rules

part-solve-multipliers-start-6 : tie.Need-slice_bounds-solve_multipliers-start-6
part-solve-multipliers-start-6 c = search rules

part-solve-multipliers-end-6 : tie.Need-slice_bounds-solve_multipliers-end-6
part-solve-multipliers-end-6 c = let s : tie.Start = search in omega (arith, s.requires.1)

sub-solve-multipliers-7 : tie.Need-slice_bounds-solve_multipliers-count-7
sub-solve-multipliers-7 c = search rules

part-solve-multipliers-start-7 : tie.Need-slice_bounds-solve_multipliers-start-7
part-solve-multipliers-start-7 c = search rules

part-solve-multipliers-end-7 : tie.Need-slice_bounds-solve_multipliers-end-7
part-solve-multipliers-end-7 c = let s : tie.Start = search in omega (arith, s.requires.1)

sub-solve-multipliers-8 : tie.Need-slice_bounds-solve_multipliers-count-8
sub-solve-multipliers-8 c = search rules

part-solve-multipliers-start-8 : tie.Need-slice_bounds-solve_multipliers-start-8
part-solve-multipliers-start-8 c = search rules

part-solve-multipliers-end-8 : tie.Need-slice_bounds-solve_multipliers-end-8
part-solve-multipliers-end-8 c = search rules

-- the way back to the costs of the basis, and how long they are
abbrev costs-at : tie.After-solve_multipliers-arg-9-1 → tie.After-basic_costs-2
costs-at c = c.before.before.before.before.before.before.before.before.before.before

costs_long : (b : tie.After-basic_costs-2) → length b.basic_costs-2.new.y ≡ max_rows
costs_long b =
    let s : tie.Start = search in
    ap length b.basic_costs-2.ensures ∙ scratch_long (length s.args.kept.now) max_rows _ s.requires.0.1

solve-multipliers-requires : tie.Need-solve_multipliers-requires
solve-multipliers-requires c κs =
    let s : tie.Start = search in
    let x : tie.Else-not-at = search in
    let a = s.args in
    let m = length a.kept.now in
    let F = factored_of a.at.factored a.at.factorings a.factor_numbers.now a.factor_coeffs.now in
    ((s.requires.0.1, costs_long (costs-at c), s.requires.0.3), dense_solid m F s.requires.1 (not-false _ x.if-not-at.false))

returns-2 : tie.Need-returns
returns-2 c =
    let s : tie.Start = search in
    let x : tie.Else-not-at = search in
    let b = costs-at c.before in
    let a = s.args in
    solved_is a.n a.costs.now a.kept.now a.basic_vars.now a.factor_numbers.now a.factor_coeffs.now
    a.at.factored (not-false _ x.if-not-at.false) b.basic_costs-2.ensures
    c.solve_multipliers.ensures

pub multipliers_spec : {M : Type 1} → statement M
multipliers_spec =
    tie.close
    (tie.spec
    basic-costs-requires
    returns
    basic-costs-requires-2
    sub-solve-multipliers
    part-solve-multipliers-start
    part-solve-multipliers-end
    sub-solve-multipliers-2
    part-solve-multipliers-start-2
    part-solve-multipliers-end-2
    sub-solve-multipliers-3
    part-solve-multipliers-start-3
    part-solve-multipliers-end-3
    sub-solve-multipliers-4
    part-solve-multipliers-start-4
    part-solve-multipliers-end-4
    sub-solve-multipliers-5
    part-solve-multipliers-start-5
    part-solve-multipliers-end-5
    sub-solve-multipliers-6
    part-solve-multipliers-start-6
    part-solve-multipliers-end-6
    sub-solve-multipliers-7
    part-solve-multipliers-start-7
    part-solve-multipliers-end-7
    sub-solve-multipliers-8
    part-solve-multipliers-start-8
    part-solve-multipliers-end-8
    solve-multipliers-requires
    returns-2)
