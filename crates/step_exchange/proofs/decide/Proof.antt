-- `step_exchange::decide` meets its contract: each call's answer is the definition's, and each test. Assumes nothing.
use mathlib.Core.Path.{◌≡◌}
use mathlib.Core.Bool.{Bool}
use mathlib.Core.List.{List, []}
use borrow.Author.Tests.{not-true, not-false}
use Rattle.sparse.specs.Scattered.{Sv, sv}
use Rattle.rules.specs.Plan.{Problem, State}
use Rattle.rules.specs.Parts.{rowed}
use Rattle.rules.specs.Basis.{row_coeffs_of, touch_at}
use Rattle.rules.specs.Pivot.{numbers_finite, new_objective}
use Rattle.state.specs.Packed.{state_in}
use Rattle.step_exchange.proofs.Laws.{combine_asks, row_of, listed_asks, helper_asks, column_listing, touch_asks, touched_is, row_listing, helper_listing, decided_bad, decided_goes}
use Rattle.step_exchange.proofs.decide.Statement.{statement}
use Rattle.step_exchange.proofs.decide.Tie as tie

-- the problem's rows, the state and the column at entry
abbrev R : tie.Start → Problem
R s = rowed s.args.n s.args.starts.now s.args.cols.now s.args.coeffs.now s.args.kept.now

abbrev S : tie.Start → State
S s = state_in s.args.numbers.now s.args.doubles.now s.args.factor_numbers.now s.args.factor_coeffs.now s.args.at

abbrev col : tie.Start → List Bool → Sv
col s m = sv s.args.values.now m s.args.list.now s.args.count

-- the way back from the touched row
abbrev row_at : tie.After-touch-row_count → tie.After-row-untouched
row_at a = search

abbrev entry : tie.After-row-untouched → tie.Start
entry a = search

-- the row as it was solved, and with the entering place touched
solved_row : (a : tie.After-row-untouched) → sv a.row-untouched.new.values a.row-untouched.new.marks a.row-untouched.new.list a.row-untouched.result ≡ row_coeffs_of (R (entry a)) (S (entry a)) (entry a).args.x.row
solved_row a = let i = (entry a).requires.1.1 in row_of (R (entry a)) (S (entry a)) (entry a).args.x.row i _ (a.row-untouched.ensures i.marks)

abbrev touchedRow : tie.After-touch-row_count → Sv
touchedRow t = sv (row_at t).row-untouched.new.values t.touch-row_count.new.marks t.touch-row_count.new.list t.touch-row_count.result

row_is : (t : tie.After-touch-row_count) → touchedRow t ≡ touch_at (row_coeffs_of (R (entry (row_at t))) (S (entry (row_at t))) (entry (row_at t)).args.x.row) (entry (row_at t)).args.e.col
row_is t = touched_is _ _ _ _ _ (solved_row (row_at t)) t.touch-row_count.ensures

row-requires : tie.Need-row-untouched-requires
row-requires c κs =
    let s : tie.Start = search in
    let rd = s.requires.1.0.0.ready in
    let q = combine_asks rd s.requires.1.0.3 s.requires.1.1 in
    ((rd.sized.numbers_long, q.0), (s.requires.0.0, q.1, q.2, q.3))

touch-requires : tie.Need-touch-row_count-requires
touch-requires c κs =
    let a : tie.After-row-untouched = search in
    let s = entry a in
    touch_asks s.requires.1.0.0.ready s.args.x.row s.args.e.col s.requires.1.0.4 _ (solved_row a)

helper-requires : tie.Need-helper-helper_count-requires
helper-requires c κs = let s : tie.Start = search in let rd = s.requires.1.0.0.ready in let l = listed_asks rd s.requires.1.0.1 in ((rd.sized, s.requires.0.1, l.0, l.1), helper_asks rd s.requires.1.0.1)

numbers-finite-requires : tie.Need-numbers_finite-requires
numbers-finite-requires c κs =
    let t : tie.After-touch-row_count = search in
    let b : tie.After-helper-helper_count = search in
    let s = entry (row_at t) in
    let rd = s.requires.1.0.0.ready in
    let w = helper_listing rd s.requires.1.0.1 [] _ (b.helper-helper_count.ensures []) in
    ((rd.sized.doubles_long, column_listing rd s.requires.1.0.1, row_listing rd s.args.x.row s.args.e.col s.requires.1.0.4 _ (row_is t)), (s.requires.1.0.2, w.0, w.1))

returns : tie.Need-returns-then-not-numbers_finite
unfolding numbers_finite new_objective
returns c m =
    let b : tie.After-helper-helper_count = search in
    let t : tie.After-touch-row_count = search in
    let s = entry (row_at t) in
    decided_bad (R s) (S s) s.args.e (col s m) s.args.x _ _ (row_is t) (b.helper-helper_count.ensures m) _ (c.numbers_finite.ensures (R s) s.args.numbers.now m _ _) (not-true _ c.if-not-numbers_finite.true-raw)

returns-2 : tie.Need-returns
unfolding numbers_finite new_objective
returns-2 c m =
    let b : tie.After-helper-helper_count = search in
    let t : tie.After-touch-row_count = search in
    let s = entry (row_at t) in
    decided_goes (R s) (S s) s.args.e (col s m) s.args.x _ _ (row_is t) (b.helper-helper_count.ensures m) _ (c.numbers_finite.ensures (R s) s.args.numbers.now m _ _) (not-false _ c.if-not-numbers_finite.false-raw)

pub decide_spec : {M : Type 1} → statement M
decide_spec =
    tie.close
    (tie.spec
    row-requires
    touch-requires
    helper-requires
    numbers-finite-requires
    returns
    returns-2)
