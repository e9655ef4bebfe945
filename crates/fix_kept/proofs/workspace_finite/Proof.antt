-- `fix_kept::workspace_finite` meets its contract: section by section. Assumes nothing.
use mathlib.Core.Path.{◌≡◌, sym, ◌∙◌}
use mathlib.Core.Bool.{true}
use borrow.Author.Rules.{rules}
use borrow.Author.Tests.{not-true, not-false}
use Rattle.doubles.specs.Limits.{max_rows, max_columns}
use Rattle.doubles.specs.Loop.{all}
use Rattle.lu_gate.specs.Gate.{finite_at}
use Rattle.state.specs.Packed.{section, basic_var_vals_at, nb_var_vals_at, prices_at, norms_at, dual_norms_at}
use Rattle.fix_rules.specs.Kept.{workspace_finite}
use Rattle.fix_kept.proofs.workspace_finite.Statement.{statement}
use Rattle.fix_kept.proofs.workspace_finite.Tie as tie

-- the tests passed so far
basics : (e : tie.Else-not-all_finite) → let s : tie.Start = search in
    all s.args.m (finite_at (section basic_var_vals_at max_rows s.args.doubles.now)) ≡ true
basics e = sym e.all_finite.ensures ∙ not-false _ e.if-not-all_finite.false-raw

values : (e : tie.Else-not-all_finite-2) → let s : tie.Start = search in
    all s.args.n (finite_at (section nb_var_vals_at max_columns s.args.doubles.now)) ≡ true
values e = sym e.all_finite-2.ensures ∙ not-false _ e.if-not-all_finite-2.false-raw

prices : (e : tie.Else-not-all_finite-3) → let s : tie.Start = search in
    all s.args.n (finite_at (section prices_at max_columns s.args.doubles.now)) ≡ true
prices e = sym e.all_finite-3.ensures ∙ not-false _ e.if-not-all_finite-3.false-raw

norms : (e : tie.Else-not-all_finite-4) → let s : tie.Start = search in
    all s.args.n (finite_at (section norms_at max_columns s.args.doubles.now)) ≡ true
norms e = sym e.all_finite-4.ensures ∙ not-false _ e.if-not-all_finite-4.false-raw

dual_norms_holds : (e : tie.Else-not-all_finite-5) → let s : tie.Start = search in
    all s.args.m (finite_at (section dual_norms_at max_rows s.args.doubles.now)) ≡ true
dual_norms_holds e = sym e.all_finite-5.ensures ∙ not-false _ e.if-not-all_finite-5.false-raw

sub-all-finite : tie.Need-slice_bounds-all_finite-count
sub-all-finite c = search rules

part-all-finite-start : tie.Need-slice_bounds-all_finite-start
part-all-finite-start c = search rules

part-all-finite-end : tie.Need-slice_bounds-all_finite-end
part-all-finite-end c = search rules

all-finite-requires : tie.Need-all_finite-requires
all-finite-requires c κs = search rules

returns : tie.Need-returns-then-not-all_finite
unfolding workspace_finite
returns c = rw (sym c.all_finite.ensures ∙ not-true _ c.if-not-all_finite.true-raw)

sub-all-finite-2 : tie.Need-slice_bounds-all_finite-count-2
sub-all-finite-2 c = search rules

part-all-finite-start-2 : tie.Need-slice_bounds-all_finite-start-2
part-all-finite-start-2 c = search rules

part-all-finite-end-2 : tie.Need-slice_bounds-all_finite-end-2
part-all-finite-end-2 c = search rules

all-finite-requires-2 : tie.Need-all_finite-requires-2
all-finite-requires-2 c κs = search rules

returns-2 : tie.Need-returns-then-not-all_finite-2
unfolding workspace_finite
returns-2 c =
    let e1 : tie.Else-not-all_finite = search in
    rw (basics e1, sym c.all_finite-2.ensures ∙ not-true _ c.if-not-all_finite-2.true-raw)

sub-all-finite-3 : tie.Need-slice_bounds-all_finite-count-3
sub-all-finite-3 c = search rules

part-all-finite-start-3 : tie.Need-slice_bounds-all_finite-start-3
part-all-finite-start-3 c = search rules

part-all-finite-end-3 : tie.Need-slice_bounds-all_finite-end-3
part-all-finite-end-3 c = search rules

all-finite-requires-3 : tie.Need-all_finite-requires-3
all-finite-requires-3 c κs = search rules

returns-3 : tie.Need-returns-then-not-all_finite-3
unfolding workspace_finite
returns-3 c =
    let e1 : tie.Else-not-all_finite = search in
    let e2 : tie.Else-not-all_finite-2 = search in
    rw (basics e1, values e2, sym c.all_finite-3.ensures ∙ not-true _ c.if-not-all_finite-3.true-raw)

sub-all-finite-4 : tie.Need-slice_bounds-all_finite-count-4
sub-all-finite-4 c = search rules

part-all-finite-start-4 : tie.Need-slice_bounds-all_finite-start-4
part-all-finite-start-4 c = search rules

part-all-finite-end-4 : tie.Need-slice_bounds-all_finite-end-4
part-all-finite-end-4 c = search rules

all-finite-requires-4 : tie.Need-all_finite-requires-4
all-finite-requires-4 c κs = search rules

returns-4 : tie.Need-returns-then-not-all_finite-4
unfolding workspace_finite
returns-4 c =
    let e1 : tie.Else-not-all_finite = search in
    let e2 : tie.Else-not-all_finite-2 = search in
    let e3 : tie.Else-not-all_finite-3 = search in
    rw (basics e1, values e2, prices e3, sym c.all_finite-4.ensures ∙ not-true _ c.if-not-all_finite-4.true-raw)

sub-all-finite-5 : tie.Need-slice_bounds-all_finite-count-5
sub-all-finite-5 c = search rules

part-all-finite-start-5 : tie.Need-slice_bounds-all_finite-start-5
part-all-finite-start-5 c = search rules

part-all-finite-end-5 : tie.Need-slice_bounds-all_finite-end-5
part-all-finite-end-5 c = search rules

all-finite-requires-5 : tie.Need-all_finite-requires-5
all-finite-requires-5 c κs = search rules

returns-5 : tie.Need-returns-then-not-all_finite-5
unfolding workspace_finite
returns-5 c =
    let e1 : tie.Else-not-all_finite = search in
    let e2 : tie.Else-not-all_finite-2 = search in
    let e3 : tie.Else-not-all_finite-3 = search in
    let e4 : tie.Else-not-all_finite-4 = search in
    rw (basics e1, values e2, prices e3, norms e4, sym c.all_finite-5.ensures ∙ not-true _ c.if-not-all_finite-5.true-raw)

sub-all-finite-6 : tie.Need-slice_bounds-all_finite-count-6
sub-all-finite-6 c = search rules

part-all-finite-start-6 : tie.Need-slice_bounds-all_finite-start-6
part-all-finite-start-6 c = search rules

part-all-finite-end-6 : tie.Need-slice_bounds-all_finite-end-6
part-all-finite-end-6 c = search rules

all-finite-requires-6 : tie.Need-all_finite-requires-6
all-finite-requires-6 c κs = search rules

returns-6 : tie.Need-returns
unfolding workspace_finite
returns-6 c =
    let e1 : tie.Else-not-all_finite = search in
    let e2 : tie.Else-not-all_finite-2 = search in
    let e3 : tie.Else-not-all_finite-3 = search in
    let e4 : tie.Else-not-all_finite-4 = search in
    let e5 : tie.Else-not-all_finite-5 = search in
    rw (basics e1, values e2, prices e3, norms e4, dual_norms_holds e5) c.all_finite-6.ensures

pub workspace_finite_spec : {M : Type 1} → statement M
workspace_finite_spec =
    tie.close
    (tie.spec
    sub-all-finite
    part-all-finite-start
    part-all-finite-end
    all-finite-requires
    returns
    sub-all-finite-2
    part-all-finite-start-2
    part-all-finite-end-2
    all-finite-requires-2
    returns-2
    sub-all-finite-3
    part-all-finite-start-3
    part-all-finite-end-3
    all-finite-requires-3
    returns-3
    sub-all-finite-4
    part-all-finite-start-4
    part-all-finite-end-4
    all-finite-requires-4
    returns-4
    sub-all-finite-5
    part-all-finite-start-5
    part-all-finite-end-5
    all-finite-requires-5
    returns-5
    sub-all-finite-6
    part-all-finite-start-6
    part-all-finite-end-6
    all-finite-requires-6
    returns-6)
