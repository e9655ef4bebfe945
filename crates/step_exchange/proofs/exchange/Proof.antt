-- `step_exchange::exchange` meets its contract: what was decided, and its store or the refactoring. Assumes nothing.
use borrow.Author.Rules.{rules}
use mathlib.Core.Path.{sym, ◌∙◌}
use mathlib.Core.Bool.{Bool}
use mathlib.Core.List.{List, []}
use borrow.Author.Tests.{not-true, not-false}
use Rattle.sparse.specs.Scattered.{Sv, sv, blank}
use Rattle.rules.specs.Plan.{Problem, State}
use Rattle.rules.specs.Basis.{eta_fits}
use Rattle.basis_rows.proofs.Parts.{fresh_blank}
use Rattle.basis_store.proofs.Laws.{fits_room}
use Rattle.state.specs.Packed.{state_in}
use Rattle.step_refactor.specs.Left.{stepped}
use Rattle.step_exchange.proofs.Laws.{listed_asks, column_listing, row_listing, store_asks, swap_asks, exchange_ends, goes_asks, exchange_factors, exchange_unsound, exchange_goes}
use Rattle.step_exchange.proofs.exchange.Statement.{statement}
use Rattle.step_exchange.proofs.exchange.Tie as tie

-- the problem, the state and the column at entry
abbrev Q : tie.Start → Problem
Q s = stepped s.args.n s.args.lowers.now s.args.uppers.now s.args.starts.now s.args.cols.now s.args.coeffs.now s.args.ops.now s.args.kept.now

abbrev S : tie.Start → State
S s = state_in s.args.numbers.now s.args.doubles.now s.args.factor_numbers.now s.args.factor_coeffs.now s.args.at

abbrev col : tie.Start → List Bool → Sv
col s m = sv s.args.values.now m s.args.list.now s.args.count

-- the way back from the decision
abbrev squares : tie.After-decide-decided → tie.After-sq_norm-sq
squares d = search

abbrev lent : tie.After-sq_norm-sq → tie.Start
lent q = search

abbrev entry : tie.After-decide-decided → tie.Start
entry d = lent (squares d)

-- and from the tests
abbrev told : tie.In-Some → tie.After-decide-decided
told w = search

abbrev room : tie.After-eta_fits → tie.In-Some
room f = search

abbrev full : tie.Then-not-eta_fits → tie.After-eta_fits
full t = search

abbrev fits : tie.Else-not-eta_fits → tie.After-eta_fits
fits t = search

abbrev tested : tie.Else-not-eta_finite → tie.After-eta_finite
tested t = search

abbrev fitting : tie.After-eta_finite → tie.Else-not-eta_fits
fitting a = search

abbrev factoring : tie.After-refactor → tie.Then-not-eta_fits
factoring a = search

abbrev passed : tie.After-store_exchange → tie.Else-not-eta_finite
passed k = search

sq-norm-requires : tie.Need-sq_norm-sq-requires
sq-norm-requires c κs = let s : tie.Start = search in listed_asks s.requires.0 s.requires.1.1.0

decide-requires : tie.Need-decide-decided-requires
decide-requires c κs =
    let q : tie.After-sq_norm-sq = search in
    let s = lent q in
    ((fresh_blank, fresh_blank), ((record { lowers = s.args.lowers.now; uppers = s.args.uppers.now; ops = s.args.ops.now; ready = s.requires.0 }, s.requires.1.1.0, record { sum = q.sq_norm-sq.ensures }, s.requires.1.1.2, s.requires.1.1.1), s.requires.1.1.3))

enum-known-decided : tie.Need-enum_known-decided
enum-known-decided c = search rules

enum_told : tie.Need-enum_told-1
enum_told c = search rules

same_length : tie.Need-shape_of-numbers-in_default
same_length c = search rules

same-length-2 : tie.Need-shape_of-doubles-in_default
same-length-2 c = search rules

same-length-3 : tie.Need-shape_of-factor_numbers-in_default
same-length-3 c = search rules

same-length-4 : tie.Need-shape_of-factor_coeffs-in_default
same-length-4 c = search rules

returns : tie.Need-returns-in_default
returns c m =
    let d : tie.After-decide-decided = search in
    let s = entry d in
    exchange_ends (Q s) (S s) s.args.e (col s m) s.args.x d.decide-decided.result d.decide-decided.new.row_values d.decide-decided.new.row_marks d.decide-decided.new.row_list d.decide-decided.new.helper_values (d.decide-decided.ensures m) c.in_default.is

eta-fits-requires : tie.Need-eta_fits-requires
eta-fits-requires c κs =
    let w : tie.In-Some = search in
    let s = entry (told w) in
    let rd = s.requires.0 in
    let q = store_asks rd in
    ((rd.sized.numbers_long, q.0, (listed_asks rd s.requires.1.1.0).0), q.1)

refactor-requires : tie.Need-refactor-requires
refactor-requires c κs =
    let t : tie.Then-not-eta_fits = search in
    let w = room (full t) in
    let d = told w in
    let q : tie.After-sq_norm-sq = squares d in
    let s = entry d in
    let rd = s.requires.0 in
    let x = s.requires.1.1 in
    let g = goes_asks (Q s) (S s) s.args.e (col s []) s.args.x d.decide-decided.result d.decide-decided.new.row_values d.decide-decided.new.row_marks d.decide-decided.new.row_list d.decide-decided.new.helper_values (d.decide-decided.ensures []) _ w.in-Some.is in (
      record {
        starts = s.args.starts.now;
        cols = s.args.cols.now;
        coeffs = s.args.coeffs.now;
        ready = rd;
        by_columns = s.requires.1.0.0;
        starts_long = s.requires.1.0.1;
      },
      (x.0, x.1, x.2, record { sum = q.sq_norm-sq.ensures }, row_listing rd s.args.x.row s.args.e.col x.1 _ g),
    )

same-length-5 : tie.Need-shape_of-numbers-then-not-eta_fits
same-length-5 c = search rules

same-length-6 : tie.Need-shape_of-doubles-then-not-eta_fits
same-length-6 c = search rules

same-length-7 : tie.Need-shape_of-factor_numbers-then-not-eta_fits
same-length-7 c = search rules

same-length-8 : tie.Need-shape_of-factor_coeffs-then-not-eta_fits
same-length-8 c = search rules

returns-2 : tie.Need-returns-then-not-eta_fits
unfolding eta_fits
returns-2 c m =
    let a : tie.After-refactor = search in
    let t = factoring a in
    let f = full t in
    let w = room f in
    let d = told w in
    let s = entry d in
    exchange_factors (Q s) (S s) s.args.e (col s m) s.args.x d.decide-decided.result d.decide-decided.new.row_values d.decide-decided.new.row_marks d.decide-decided.new.row_list d.decide-decided.new.helper_values (d.decide-decided.ensures m) _ w.in-Some.is
    (sym (f.eta_fits.ensures s.args.doubles.now) ∙ not-true _ t.if-not-eta_fits.true-raw) _
    (a.refactor.ensures s.args.starts.now s.args.cols.now s.args.coeffs.now s.requires.1.0.0 m d.decide-decided.new.row_marks blank.pat)

eta-finite-requires : tie.Need-eta_finite-requires
eta-finite-requires c κs =
    let t : tie.Else-not-eta_fits = search in
    let s = entry (told (room (fits t))) in
    listed_asks s.requires.0 s.requires.1.1.0

same-length-9 : tie.Need-shape_of-numbers-then-not-eta_finite
same-length-9 c = search rules

same-length-10 : tie.Need-shape_of-doubles-then-not-eta_finite
same-length-10 c = search rules

same-length-11 : tie.Need-shape_of-factor_numbers-then-not-eta_finite
same-length-11 c = search rules

same-length-12 : tie.Need-shape_of-factor_coeffs-then-not-eta_finite
same-length-12 c = search rules

returns-3 : tie.Need-returns-then-not-eta_finite
unfolding eta_fits
returns-3 c m =
    let a : tie.After-eta_finite = search in
    let t = fitting a in
    let f = fits t in
    let w = room f in
    let d = told w in
    let s = entry d in
    exchange_unsound (Q s) (S s) s.args.e (col s m) s.args.x d.decide-decided.result d.decide-decided.new.row_values d.decide-decided.new.row_marks d.decide-decided.new.row_list d.decide-decided.new.helper_values (d.decide-decided.ensures m) _ w.in-Some.is
    (sym (f.eta_fits.ensures s.args.doubles.now) ∙ not-false _ t.if-not-eta_fits.false-raw)
    (sym (a.eta_finite.ensures m) ∙ not-true _ c.if-not-eta_finite.true-raw)

store-exchange-requires : tie.Need-store_exchange-requires
unfolding eta_fits
store-exchange-requires c κs =
    let z : tie.Else-not-eta_finite = search in
    let a = tested z in
    let t = fitting a in
    let f = fits t in
    let w = room f in
    let d = told w in
    let s = entry d in
    let q : tie.After-sq_norm-sq = squares d in
    let rd = s.requires.0 in
    let x = s.requires.1.1 in
    let g = goes_asks (Q s) (S s) s.args.e (col s []) s.args.x d.decide-decided.result d.decide-decided.new.row_values d.decide-decided.new.row_marks d.decide-decided.new.row_list d.decide-decided.new.helper_values (d.decide-decided.ensures []) _ w.in-Some.is in (
      swap_asks rd s.args.e.col s.args.x.row x.1 x.2,
      (
        (fits_room (S s) s.args.count (sym (f.eta_fits.ensures s.args.doubles.now) ∙ not-false _ t.if-not-eta_fits.false-raw), rd.budget_left),
        (column_listing rd x.0, q.sq_norm-sq.ensures, row_listing rd s.args.x.row s.args.e.col x.1 _ g),
      ),
    )

same-length-13 : tie.Need-shape_of-numbers
same-length-13 c = search rules

same-length-14 : tie.Need-shape_of-doubles
same-length-14 c = search rules

same-length-15 : tie.Need-shape_of-factor_numbers
same-length-15 c = search rules

same-length-16 : tie.Need-shape_of-factor_coeffs
same-length-16 c = search rules

returns-4 : tie.Need-returns
unfolding eta_fits
returns-4 c m =
    let k : tie.After-store_exchange = search in
    let z = passed k in
    let a = tested z in
    let t = fitting a in
    let f = fits t in
    let w = room f in
    let d = told w in
    let s = entry d in
    exchange_goes (Q s) (S s) s.args.e (col s m) s.args.x d.decide-decided.result d.decide-decided.new.row_values d.decide-decided.new.row_marks d.decide-decided.new.row_list d.decide-decided.new.helper_values (d.decide-decided.ensures m) _ w.in-Some.is
    (sym (f.eta_fits.ensures s.args.doubles.now) ∙ not-false _ t.if-not-eta_fits.false-raw)
    (sym (a.eta_finite.ensures m) ∙ not-false _ z.if-not-eta_finite.false-raw)
    (k.store_exchange.ensures m d.decide-decided.new.row_marks blank.pat)

pub exchange_spec : {M : Type 1} → statement M
exchange_spec =
    tie.close
    (tie.spec
    sq-norm-requires
    decide-requires
    enum-known-decided
    enum_told
    same_length
    same-length-2
    same-length-3
    same-length-4
    returns
    eta-fits-requires
    refactor-requires
    same-length-5
    same-length-6
    same-length-7
    same-length-8
    returns-2
    eta-finite-requires
    same-length-9
    same-length-10
    same-length-11
    same-length-12
    returns-3
    store-exchange-requires
    same-length-13
    same-length-14
    same-length-15
    same-length-16
    returns-4)
