-- `step_norms::decide` meets its contract: tau is the definition's, and each test. Assumes nothing.
use borrow.Author.Rules.{rules}
use mathlib.Core.Path.{◌≡◌, refl, sym, ◌∙◌}
use mathlib.Core.Bool.{Bool}
use mathlib.Core.List.{List, []}
use native.Mathlib.Omega.{arith}
use borrow.Author.Tests.{not-true, not-false}
use Rattle.doubles.specs.Limits.{max_rows}
use Rattle.sparse.specs.Scattered.{Sv, sv}
use Rattle.rules.specs.Plan.{Problem, State}
use Rattle.rules.specs.Parts.{rowed}
use Rattle.state.specs.Packed.{state_in, dual_norms_at}
use Rattle.step_numbers.proofs.Laws.{fails, passes}
use Rattle.step_numbers.proofs.Parts.{listing_in}
use Rattle.step_norms.proofs.Laws.{tested_by_holds, norms_tested, tau_listed}
use Rattle.step_norms.proofs.decide.Statement.{statement}
use Rattle.step_norms.proofs.decide.Tie as tie

-- the state, the column and the row solve's result at entry, and tau as it was left
abbrev S : tie.Start → State
S s = state_in s.args.numbers.now s.args.doubles.now s.args.factor_numbers.now s.args.factor_coeffs.now s.args.at

abbrev col : tie.Start → List Bool → Sv
col s m = sv s.args.values.now m s.args.list.now s.args.count

abbrev inv : tie.Start → List Bool → Sv
inv s m = sv s.args.y.now m s.args.y_list.now s.args.y_count

abbrev entry : tie.After-tau-tau_count → tie.Start
entry b = search

abbrev vec : tie.After-tau-tau_count → Sv
vec b = let l = b.tau-tau_count.new in sv l.values l.marks l.list b.tau-tau_count.result

tau-requires : tie.Need-tau-tau_count-requires
tau-requires c κs = let s : tie.Start = search in ((s.requires.0.1, s.requires.0.0, s.requires.1.0.0, s.requires.1.0.1), s.requires.1.1)

listed-finite-requires : tie.Need-listed_finite-requires
listed-finite-requires c κs =
    let b : tie.After-tau-tau_count = search in
    let s = entry b in
    let P : Problem = rowed 0 [] [] [] s.args.kept.now in
    tau_listed P (S s) (inv s []) s.requires.1.1 (vec b) (b.tau-tau_count.ensures P [] refl)

returns : tie.Need-returns-then-not-listed_finite
returns c P cm ym e =
    let b : tie.After-tau-tau_count = search in
    let s = entry b in
    tested_by_holds P (S s) (col s cm) s.args.x (inv s ym) (vec b) (b.tau-tau_count.ensures P ym e) _
    (sym (fails _ (sym (c.listed_finite.ensures _) ∙ not-true _ c.if-not-listed_finite.true-raw)))

sub-norms-finite : tie.Need-slice_bounds-norms_finite-count
sub-norms-finite c = search rules

part-norms-finite-start : tie.Need-slice_bounds-norms_finite-start
part-norms-finite-start c = search rules

part-norms-finite-end : tie.Need-slice_bounds-norms_finite-end
part-norms-finite-end c = search rules

norms-finite-requires : tie.Need-norms_finite-requires
norms-finite-requires c κs =
    let s : tie.Start = search in
    listing_in dual_norms_at max_rows s.args.doubles.now (omega (arith, s.requires.0.1)) s.requires.0.2

returns-2 : tie.Need-returns
returns-2 c P cm ym e =
    let b : tie.After-tau-tau_count = search in
    let s = entry b in
    let z : tie.Else-not-listed_finite = search in
    let n : tie.After-norms_finite = search in
    tested_by_holds P (S s) (col s cm) s.args.x (inv s ym) (vec b) (b.tau-tau_count.ensures P ym e) _
    (sym (passes (sym (z.listed_finite.ensures _) ∙ not-false _ z.if-not-listed_finite.false-raw)
    (sym (norms_tested P (S s) (col s cm) s.args.x (inv s ym) (vec b) (b.tau-tau_count.ensures P ym e) s.args.sq (s.requires.1.0.2.sum ym) _ (n.norms_finite.ensures cm)))))

pub decide_spec : {M : Type 1} → statement M
decide_spec =
    tie.close
    (tie.spec
    tau-requires
    listed-finite-requires
    returns
    sub-norms-finite
    part-norms-finite-start
    part-norms-finite-end
    norms-finite-requires
    returns-2)
