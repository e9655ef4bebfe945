-- `step_norms::exchange` meets its contract: what was tested, the exchange, and the store behind it. Assumes nothing.
use borrow.Author.Rules.{rules}
use mathlib.Core.Path.{◌≡◌, refl}
use mathlib.Core.Bool.{Bool}
use mathlib.Core.List.{List}
use native.Mathlib.Omega.{arith}
use borrow.Author.Tests.{not-true, not-false}
use Rattle.sparse.specs.Scattered.{Sv, sv, blank}
use Rattle.rules.specs.Plan.{Problem, State}
use Rattle.basis_rows.proofs.Parts.{fresh_blank}
use Rattle.state.specs.Packed.{state_in}
use Rattle.step_refactor.specs.Left.{stepped}
use Rattle.step_exchange.proofs.Laws.{inverse_listed, tau_asks, column_listing}
use Rattle.step_norms.specs.Tested.{tested, tested_by}
use Rattle.step_norms.proofs.Laws.{norms_end, norms_stop, norms_move}
use Rattle.step_norms.proofs.exchange.Statement.{statement}
use Rattle.step_norms.proofs.exchange.Tie as tie

-- the problem, the state, the column and the row solve's result at entry
abbrev Q : tie.Start → Problem
Q s = stepped s.args.n s.args.lowers.now s.args.uppers.now s.args.starts.now s.args.cols.now s.args.coeffs.now s.args.ops.now s.args.kept.now

abbrev S : tie.Start → State
S s = state_in s.args.numbers.now s.args.doubles.now s.args.factor_numbers.now s.args.factor_coeffs.now s.args.at

abbrev col : tie.Start → List Bool → Sv
col s m = sv s.args.values.now m s.args.list.now s.args.count

abbrev inv : tie.Start → Sv
inv s = sv s.args.y.now s.requires.1.1.3.marks s.args.y_list.now s.args.y_count

-- the way back from the tests
abbrev squares : tie.After-decide → tie.After-sq_norm-sq
squares d = search

abbrev lent : tie.After-sq_norm-sq → tie.Start
lent q = search

abbrev entry : tie.After-decide → tie.Start
entry d = lent (squares d)

abbrev tested_at : tie.Else-not-decide → tie.After-decide
tested_at z = search

abbrev passed : tie.After-exchange-went → tie.Else-not-decide
passed x = search

abbrev stop-at : tie.In-Err → tie.After-exchange-went
stop-at w = search

abbrev move_at : tie.In-Ok → tie.After-exchange-went
move_at w = search

abbrev storing : tie.After-store_dual_norms → tie.In-Ok
storing k = search

decides : (d : tie.After-decide) (m : List Bool)
    → tested_by d.decide.result d.decide.new.tau ≡ tested (Q (entry d)) (S (entry d)) (col (entry d) m) (entry d).args.x (inv (entry d))
decides d m = let s = entry d in d.decide.ensures (Q s) m s.requires.1.1.3.marks refl

sq-norm-requires : tie.Need-sq_norm-sq-requires
sq-norm-requires c κs = let s : tie.Start = search in let p = s.requires.1.1 in inverse_listed s.requires.0 p.2 p.3

decide-requires : tie.Need-decide-requires
decide-requires c κs =
    let q : tie.After-sq_norm-sq = search in
    let s = lent q in
    let rd = s.requires.0 in
    let p = s.requires.1.1 in
    let l = inverse_listed rd p.2 p.3 in
    ((fresh_blank, rd.sized, column_listing rd p.0), ((l.0, l.1, record { sum = q.sq_norm-sq.ensures }), tau_asks rd p.2 p.3))

same_length : tie.Need-shape_of-numbers-then-not-decide
same_length c = search rules

same-length-2 : tie.Need-shape_of-doubles-then-not-decide
same-length-2 c = search rules

same-length-3 : tie.Need-shape_of-factor_numbers-then-not-decide
same-length-3 c = search rules

same-length-4 : tie.Need-shape_of-factor_coeffs-then-not-decide
same-length-4 c = search rules

returns : tie.Need-returns-then-not-decide
returns c m =
    let d : tie.After-decide = search in
    let s = entry d in
    norms_end (Q s) (S s) s.args.e (col s m) (inv s) s.args.x s.requires.1.1.3.is d.decide.result d.decide.new.tau (decides d m) (not-true _ c.if-not-decide.true-raw)

exchange-requires : tie.Need-exchange-went-requires
exchange-requires c κs = let z : tie.Else-not-decide = search in (entry (tested_at z)).requires

enum-known-went : tie.Need-enum_known-went
enum-known-went c = search rules

same-length-5 : tie.Need-shape_of-numbers-in-Err
same-length-5 c = search rules

same-length-6 : tie.Need-shape_of-doubles-in-Err
same-length-6 c = search rules

same-length-7 : tie.Need-shape_of-factor_numbers-in-Err
same-length-7 c = search rules

same-length-8 : tie.Need-shape_of-factor_coeffs-in-Err
same-length-8 c = search rules

returns-2 : tie.Need-returns-in-Err
returns-2 c m =
    let w : tie.In-Err = search in
    let x = stop-at w in
    let z = passed x in
    let d = tested_at z in
    let s = entry d in
    let l = x.exchange-went.new in
    norms_stop (Q s) (S s) s.args.e (col s m) (inv s) s.args.x s.requires.1.1.3.is d.decide.result d.decide.new.tau (decides d m) (not-false _ z.if-not-decide.false-raw)
    x.exchange-went.result l.numbers l.doubles l.factor_numbers l.factor_coeffs (x.exchange-went.ensures m) _ w.in-Err.is

enum-known-went-2 : tie.Need-enum_known-went-in-Ok-1
enum-known-went-2 c = search rules

store-dual-norms-requires : tie.Need-store_dual_norms-requires
store-dual-norms-requires c κs =
    let w : tie.In-Ok = search in
    let x = move_at w in
    let s = entry (tested_at (passed x)) in
    let rd = s.requires.0 in
    (column_listing rd s.requires.1.1.0, omega (arith, rd.sized, x.exchange-went.auto.doubles))

same-length-9 : tie.Need-shape_of-numbers-in-Ok
same-length-9 c = search rules

same-length-10 : tie.Need-shape_of-doubles-in-Ok
same-length-10 c = search rules

same-length-11 : tie.Need-shape_of-factor_numbers-in-Ok
same-length-11 c = search rules

same-length-12 : tie.Need-shape_of-factor_coeffs-in-Ok
same-length-12 c = search rules

returns-3 : tie.Need-returns-in-Ok
returns-3 c m =
    let k : tie.After-store_dual_norms = search in
    let w = storing k in
    let x = move_at w in
    let z = passed x in
    let d = tested_at z in
    let s = entry d in
    let l = x.exchange-went.new in
    norms_move (Q s) (S s) s.args.e (col s m) (inv s) s.args.x s.requires.1.1.3.is d.decide.result d.decide.new.tau (decides d m) (not-false _ z.if-not-decide.false-raw)
    x.exchange-went.result l.numbers l.doubles l.factor_numbers l.factor_coeffs (x.exchange-went.ensures m) _ w.in-Ok.is
    _ ((squares d).sq_norm-sq.ensures s.requires.1.1.3.marks) blank.pat k.store_dual_norms.new.doubles (k.store_dual_norms.ensures l.numbers m blank.pat)

pub exchange_spec : {M : Type 1} → statement M
exchange_spec =
    tie.close
    (tie.spec
    sq-norm-requires
    decide-requires
    same_length
    same-length-2
    same-length-3
    same-length-4
    returns
    exchange-requires
    enum-known-went
    same-length-5
    same-length-6
    same-length-7
    same-length-8
    returns-2
    enum-known-went-2
    store-dual-norms-requires
    same-length-9
    same-length-10
    same-length-11
    same-length-12
    returns-3)
