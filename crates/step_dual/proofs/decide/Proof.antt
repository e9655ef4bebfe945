-- `step_dual::decide` meets its contract: each call's answer is the definition's, and each test. Assumes nothing.
use borrow.Author.Rules.{rules}
use mathlib.Core.Path.{◌≡◌, refl, sym, ◌∙◌}
use borrow.Author.Tests.{not-true, not-false}
use Rattle.sparse.specs.Scattered.{Sv, sv}
use Rattle.rules.specs.Plan.{Problem, State}
use Rattle.rules.specs.Parts.{rowed}
use Rattle.rules.specs.Basis.{inv_row, row_coeffs_of}
use Rattle.rules.specs.declared.DualRatio.TheVariants.{Exchange, Nothing, NotFinite}
use Rattle.basis_rows.proofs.Parts.{fresh_blank}
use Rattle.state.specs.Packed.{state_in}
use Rattle.step_exchange.specs.Lent.{Inverse}
use Rattle.step_exchange.proofs.Laws.{inv_row_asks, combine_asks, row_of}
use Rattle.step_dual.specs.Found.{by_dual}
use Rattle.step_dual.proofs.Laws.{listed_asks, ratio_asks, found_bad, found_ratio}
use Rattle.step_dual.proofs.decide.Statement.{statement}
use Rattle.step_dual.proofs.decide.Tie as tie

-- the problem's rows and the state at entry
abbrev R : tie.Start → Problem
R s = rowed s.args.n s.args.starts.now s.args.cols.now s.args.coeffs.now s.args.kept.now

abbrev S : tie.Start → State
S s = state_in s.args.numbers.now s.args.doubles.now s.args.factor_numbers.now s.args.factor_coeffs.now s.args.at

-- the way back
abbrev entry : tie.After-inv_row-y_count → tie.Start
entry a = search

abbrev solve-at : tie.After-row-count → tie.After-inv_row-y_count
solve-at b = search

abbrev row_at : tie.Else-not-listed_finite → tie.After-row-count
row_at x = search

abbrev test_at : tie.After-dual_ratio-ratio → tie.Else-not-listed_finite
test_at d = search

abbrev ratio-at : tie.In-Exchange → tie.After-dual_ratio-ratio
ratio-at d = search

-- the row solve's result, and the row
abbrev ysv : tie.After-inv_row-y_count → Sv
ysv a = let l = a.inv_row-y_count.new in sv l.values l.marks l.list a.inv_row-y_count.result

solved : (a : tie.After-inv_row-y_count) → ysv a ≡ inv_row (R (entry a)) (S (entry a)) (entry a).args.l.row
solved a = a.inv_row-y_count.ensures (R (entry a)) refl

inverse : (a : tie.After-inv_row-y_count)
    → Inverse (R (entry a)) (S (entry a)) (entry a).args.l.row a.inv_row-y_count.new.values a.inv_row-y_count.new.list a.inv_row-y_count.result
inverse a = record { marks = a.inv_row-y_count.new.marks; is = solved a }

abbrev rsv : tie.After-row-count → Sv
rsv b = let l = b.row-count.new in sv l.values l.marks l.list b.row-count.result

combined : (b : tie.After-row-count) → rsv b ≡ row_coeffs_of (R (entry (solve-at b))) (S (entry (solve-at b))) (entry (solve-at b)).args.l.row
combined b =
    let a = solve-at b in
    let i = inverse a in
    row_of (R (entry a)) (S (entry a)) (entry a).args.l.row i _ (b.row-count.ensures i.marks)

inv-row-requires : tie.Need-inv_row-y_count-requires
inv-row-requires c κs =
    let s : tie.Start = search in
    let rd = s.requires.1.0.ready in
    let q = inv_row_asks rd s.args.l.row s.requires.1.1 in
    ((rd.sized, s.requires.0, q.0), q.1)

row-requires : tie.Need-row-count-requires
row-requires c κs =
    let a : tie.After-inv_row-y_count = search in
    let s = entry a in
    let rd = s.requires.1.0.ready in
    let q = combine_asks rd s.requires.1.1 (inverse a) in
    ((rd.sized.numbers_long, q.0), (fresh_blank, q.1, q.2, q.3))

listed-finite-requires : tie.Need-listed_finite-requires
listed-finite-requires c κs =
    let b : tie.After-row-count = search in
    let s = entry (solve-at b) in
    listed_asks s.requires.1.0.ready s.args.l.row _ (combined b)

returns : tie.Need-returns-then-not-listed_finite
returns c =
    let b : tie.After-row-count = search in
    let a = solve-at b in
    let s = entry a in
    found_bad s.args.still (R s) (S s) s.args.l (ysv a) (rsv b) (solved a) (combined b) (sym (c.listed_finite.ensures _) ∙ not-true _ c.if-not-listed_finite.true-raw)

dual-ratio-requires : tie.Need-dual_ratio-ratio-requires
dual-ratio-requires c κs =
    let b : tie.After-row-count = search in
    let s = entry (solve-at b) in
    let rd = s.requires.1.0.ready in
    (rd.sized, ratio_asks rd s.args.l s.requires.1.1 _ (combined b))

enum_told : tie.Need-enum_told-1
enum_told c = search rules

returns-2 : tie.Need-returns-in-NotFinite
unfolding by_dual
returns-2 c =
    let d : tie.After-dual_ratio-ratio = search in
    let x = test_at d in
    let b = row_at x in
    let a = solve-at b in
    let s = entry a in
    let q : d.dual_ratio-ratio.result ≡ NotFinite = c.in-NotFinite.is in
    found_ratio s.args.still (R s) (S s) s.args.l (ysv a) (rsv b) (solved a) (combined b) (sym (x.listed_finite.ensures _) ∙ not-false _ x.if-not-listed_finite.false-raw) NotFinite
    (sym q ∙ d.dual_ratio-ratio.ensures _)

enum-told-2 : tie.Need-enum_told-in-Nothing
enum-told-2 c = search rules

returns-3 : tie.Need-returns-in-Nothing
unfolding by_dual
returns-3 c =
    let d : tie.After-dual_ratio-ratio = search in
    let x = test_at d in
    let b = row_at x in
    let a = solve-at b in
    let s = entry a in
    let q : d.dual_ratio-ratio.result ≡ Nothing = c.in-Nothing.is in
    found_ratio s.args.still (R s) (S s) s.args.l (ysv a) (rsv b) (solved a) (combined b) (sym (x.listed_finite.ensures _) ∙ not-false _ x.if-not-listed_finite.false-raw) Nothing
    (sym q ∙ d.dual_ratio-ratio.ensures _)

enum-known-ratio : tie.Need-enum_known-ratio
enum-known-ratio c = search rules

returns-4 : tie.Need-returns-in-Exchange
unfolding by_dual
returns-4 c =
    let w : tie.In-Exchange = search in
    let d = ratio-at w in
    let x = test_at d in
    let b = row_at x in
    let a = solve-at b in
    let s = entry a in
    found_ratio s.args.still (R s) (S s) s.args.l (ysv a) (rsv b) (solved a) (combined b) (sym (x.listed_finite.ensures _) ∙ not-false _ x.if-not-listed_finite.false-raw) (Exchange _ _ _ _)
    (sym w.in-Exchange.is ∙ d.dual_ratio-ratio.ensures _)

pub decide_spec : {M : Type 1} → statement M
decide_spec =
    tie.close
    (tie.spec
    inv-row-requires
    row-requires
    listed-finite-requires
    returns
    dual-ratio-requires
    enum_told
    returns-2
    enum-told-2
    returns-3
    enum-known-ratio
    returns-4)
