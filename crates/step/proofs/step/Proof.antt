-- `step::step` meets its contract: what was decided, and its store or the exchange. Assumes nothing.
use borrow.Author.Rules.{rules}
use mathlib.Core.Path.{◌≡◌, refl}
use Rattle.rules.specs.Plan.{Problem, State}
use Rattle.basis_rows.proofs.Parts.{fresh_blank}
use Rattle.state.specs.Packed.{state_in}
use Rattle.step_refactor.specs.Left.{stepped}
use Rattle.step_exchange.proofs.Laws.{touched_is}
use Rattle.step.specs.Found.{found, found_by}
use Rattle.step.proofs.Laws.{touch_asks, touched_solved, column_listing, flip_asks, exchange_asks, step_stops, flips_column, step_flips, exchanges_column, step_exchanges}
use Rattle.step.proofs.step.Statement.{statement}
use Rattle.step.proofs.step.Tie as tie

-- the problem and the state at entry
abbrev Q : tie.Start → Problem
Q s = stepped s.args.n s.args.lowers.now s.args.uppers.now s.args.starts.now s.args.cols.now s.args.coeffs.now s.args.ops.now s.args.kept.now

abbrev S : tie.Start → State
S s = state_in s.args.numbers.now s.args.doubles.now s.args.factor_numbers.now s.args.factor_coeffs.now s.args.at

-- the way back from the decision
abbrev entry : tie.After-decide-decided → tie.Start
entry d = search

abbrev flip-at : tie.In-Flips → tie.After-decide-decided
flip-at w = search

abbrev exchange-at : tie.In-Exchanges → tie.After-decide-decided
exchange-at w = search

abbrev touching : tie.After-touch-touched → tie.In-Exchanges
touching t = search

abbrev exchanging : tie.After-exchange → tie.After-touch-touched
exchanging x = search

decides : (d : tie.After-decide-decided) → found_by d.decide-decided.result d.decide-decided.new.values d.decide-decided.new.marks d.decide-decided.new.list ≡ found (Q (entry d)) (S (entry d)) (entry d).args.e
decides d = let s = entry d in d.decide-decided.ensures s.args.starts.now s.args.cols.now s.args.coeffs.now s.requires.1.0

decide-requires : tie.Need-decide-decided-requires
decide-requires c κs = let s : tie.Start = search in
    (fresh_blank, (record { starts = s.args.starts.now; cols = s.args.cols.now; coeffs = s.args.coeffs.now; ready = s.requires.0; by_columns = s.requires.1.0; starts_long = s.requires.1.1 }, s.requires.1.2))

enum-known-decided : tie.Need-enum_known-decided
enum-known-decided c = search rules

same_length : tie.Need-shape_of-numbers-in-Stops
same_length c = search rules

same-length-2 : tie.Need-shape_of-doubles-in-Stops
same-length-2 c = search rules

same-length-3 : tie.Need-shape_of-factor_numbers-in-Stops
same-length-3 c = search rules

same-length-4 : tie.Need-shape_of-factor_coeffs-in-Stops
same-length-4 c = search rules

returns : tie.Need-returns-in-Stops
returns c =
    let d : tie.After-decide-decided = search in
    let s = entry d in
    let w : tie.In-Stops = search in
    step_stops (Q s) (S s) s.args.e d.decide-decided.result d.decide-decided.new.values d.decide-decided.new.marks d.decide-decided.new.list (decides d) _ w.in-Stops.is

enum-known-decided-2 : tie.Need-enum_known-decided-in-Flips-1
enum-known-decided-2 c = search rules

store-flip-requires : tie.Need-store_flip-requires
store-flip-requires c κs =
    let w : tie.In-Flips = search in
    let d = flip-at w in
    let s = entry d in
    (flip_asks s.requires.0 s.args.e s.requires.1.2, (column_listing s.requires.0 s.args.e s.requires.1.2 (flips_column (Q s) (S s) s.args.e d.decide-decided.result d.decide-decided.new.values d.decide-decided.new.marks d.decide-decided.new.list (decides d) _ _ _ w.in-Flips.is), s.requires.0.budget_left))

same-length-5 : tie.Need-shape_of-numbers-in-Flips
same-length-5 c = search rules

same-length-6 : tie.Need-shape_of-doubles-in-Flips
same-length-6 c = search rules

same-length-7 : tie.Need-shape_of-factor_numbers-in-Flips
same-length-7 c = search rules

same-length-8 : tie.Need-shape_of-factor_coeffs-in-Flips
same-length-8 c = search rules

returns-2 : tie.Need-returns-in-Flips
returns-2 c =
    let t : tie.After-store_flip = search in
    let w : tie.In-Flips = search in
    let d = flip-at w in
    let s = entry d in
    step_flips (Q s) (S s) s.args.e d.decide-decided.result d.decide-decided.new.values d.decide-decided.new.marks d.decide-decided.new.list (decides d) _ _ _ w.in-Flips.is (t.store_flip.ensures _)

enum-known-decided-3 : tie.Need-enum_known-decided-in-Exchanges-1
enum-known-decided-3 c = search rules

touch-requires : tie.Need-touch-touched-requires
touch-requires c κs =
    let w : tie.In-Exchanges = search in
    let d = exchange-at w in
    let s = entry d in
    let q = exchanges_column (Q s) (S s) s.args.e d.decide-decided.result d.decide-decided.new.values d.decide-decided.new.marks d.decide-decided.new.list (decides d) _ _ w.in-Exchanges.is in
    touch_asks s.requires.0 s.args.e s.requires.1.2 q.0 _ (exchange_asks s.requires.0 s.args.e s.requires.1.2 q.0 _ q.1)

exchange-requires : tie.Need-exchange-requires
exchange-requires c κs =
    let t : tie.After-touch-touched = search in
    let w = touching t in
    let d = exchange-at w in
    let s = entry d in
    let q = exchanges_column (Q s) (S s) s.args.e d.decide-decided.result d.decide-decided.new.values d.decide-decided.new.marks d.decide-decided.new.list (decides d) _ _ w.in-Exchanges.is in
    let row = exchange_asks s.requires.0 s.args.e s.requires.1.2 q.0 _ q.1 in (
      s.requires.0,
      (
        (s.requires.1.0, s.requires.1.1),
        (
          record {
            marks = t.touch-touched.new.marks;
            vector = touched_solved s.requires.0 s.args.e s.requires.1.2 q.0 _ row _ (touched_is _ _ _ _ _ refl t.touch-touched.ensures);
          },
          s.requires.1.2,
          row,
        ),
      ),
    )

same-length-9 : tie.Need-shape_of-numbers-in-Exchanges
same-length-9 c = search rules

same-length-10 : tie.Need-shape_of-doubles-in-Exchanges
same-length-10 c = search rules

same-length-11 : tie.Need-shape_of-factor_numbers-in-Exchanges
same-length-11 c = search rules

same-length-12 : tie.Need-shape_of-factor_coeffs-in-Exchanges
same-length-12 c = search rules

returns-3 : tie.Need-returns-in-Exchanges
returns-3 c =
    let x : tie.After-exchange = search in
    let t = exchanging x in
    let w = touching t in
    let d = exchange-at w in
    let s = entry d in
    step_exchanges (Q s) (S s) s.args.e d.decide-decided.result d.decide-decided.new.values d.decide-decided.new.marks d.decide-decided.new.list (decides d) _ _ w.in-Exchanges.is _
    (touched_is _ _ _ _ _ refl t.touch-touched.ensures) _ (x.exchange.ensures t.touch-touched.new.marks)

pub step_spec : {M : Type 1} → statement M
step_spec =
    tie.close
    (tie.spec
    decide-requires
    enum-known-decided
    same_length
    same-length-2
    same-length-3
    same-length-4
    returns
    enum-known-decided-2
    store-flip-requires
    same-length-5
    same-length-6
    same-length-7
    same-length-8
    returns-2
    enum-known-decided-3
    touch-requires
    exchange-requires
    same-length-9
    same-length-10
    same-length-11
    same-length-12
    returns-3)
