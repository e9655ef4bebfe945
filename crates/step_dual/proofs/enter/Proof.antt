-- `step_dual::enter` meets its contract: the column solve, its test, and the exchange. Assumes nothing.
use borrow.Author.Rules.{rules}
use mathlib.Core.Path.{◌≡◌, refl, sym, ◌∙◌}
use borrow.Author.Tests.{not-true, not-false}
use Rattle.doubles.specs.Lists.{◌#◌}
use Rattle.sparse.specs.Scattered.{Sv, sv}
use Rattle.rules.specs.Plan.{Problem, State}
use Rattle.rules.specs.Basis.{column_coeffs}
use Rattle.basis_columns.proofs.Callers.{columns_part}
use Rattle.basis_rows.proofs.Parts.{fresh_blank}
use Rattle.state.specs.Packed.{state_in}
use Rattle.step_refactor.specs.Left.{stepped}
use Rattle.step_exchange.proofs.Laws.{touched_is}
use Rattle.step.proofs.Laws.{column_asks, listed_asks, touch_asks, touched_solved}
use Rattle.step_dual.proofs.Laws.{entered_bad, entered_goes}
use Rattle.step_dual.proofs.enter.Statement.{statement}
use Rattle.step_dual.proofs.enter.Tie as tie

-- the problem and the state at entry
abbrev Q : tie.Start → Problem
Q s = stepped s.args.n s.args.lowers.now s.args.uppers.now s.args.starts.now s.args.cols.now s.args.coeffs.now s.args.ops.now s.args.kept.now

abbrev S : tie.Start → State
S s = state_in s.args.numbers.now s.args.doubles.now s.args.factor_numbers.now s.args.factor_coeffs.now s.args.at

-- the way back
abbrev entry : tie.After-column-count → tie.Start
entry b = search

abbrev column_at_holds : tie.Else-not-listed_finite → tie.After-column-count
column_at_holds x = search

abbrev test_at : tie.After-touch-touched → tie.Else-not-listed_finite
test_at t = search

abbrev touch-at : tie.After-exchange → tie.After-touch-touched
touch-at x = search

-- the column that the solve leaves
abbrev vec : tie.After-column-count → Sv
vec b = let l = b.column-count.new in sv l.values l.marks l.list b.column-count.result

is_column : (b : tie.After-column-count) → vec b ≡ column_coeffs (Q (entry b)) (S (entry b)) ((S (entry b)).ws.nb_vars # (entry b).args.e.col)
is_column b = b.column-count.ensures (Q (entry b)) refl refl (columns_part (Q (entry b)) (entry b).requires.1.0.0)

column-requires : tie.Need-column-count-requires
column-requires c κs =
    let s : tie.Start = search in
    let q = column_asks s.requires.0 s.args.e s.requires.1.1.0 s.requires.1.0.0 s.requires.1.0.1 in
    ((s.requires.0.sized, fresh_blank, q.0), (q.1, q.2))

listed-finite-requires : tie.Need-listed_finite-requires
listed-finite-requires c κs =
    let b : tie.After-column-count = search in
    let s = entry b in
    listed_asks s.requires.0 s.args.e s.requires.1.1.0 (is_column b)

same_length : tie.Need-shape_of-numbers-then-not-listed_finite
same_length c = search rules

same-length-2 : tie.Need-shape_of-doubles-then-not-listed_finite
same-length-2 c = search rules

same-length-3 : tie.Need-shape_of-factor_numbers-then-not-listed_finite
same-length-3 c = search rules

same-length-4 : tie.Need-shape_of-factor_coeffs-then-not-listed_finite
same-length-4 c = search rules

returns : tie.Need-returns-then-not-listed_finite
returns c =
    let b : tie.After-column-count = search in
    let s = entry b in
    entered_bad (Q s) (S s) s.args.e s.args.x (vec b) (is_column b) (sym (c.listed_finite.ensures _) ∙ not-true _ c.if-not-listed_finite.true-raw)

touch-requires : tie.Need-touch-touched-requires
touch-requires c κs =
    let b : tie.After-column-count = search in
    let s = entry b in
    touch_asks s.requires.0 s.args.e s.requires.1.1.0 (is_column b) _ s.requires.1.1.1

exchange-requires : tie.Need-exchange-requires
exchange-requires c κs =
    let t : tie.After-touch-touched = search in
    let b = column_at_holds (test_at t) in
    let s = entry b in
    let p = s.requires.1.1 in (
      s.requires.0,
      (
        s.requires.1.0,
        (
          record {
            marks = t.touch-touched.new.marks;
            vector = touched_solved s.requires.0 s.args.e p.0 (is_column b) _ p.1 _ (touched_is _ _ _ _ _ refl t.touch-touched.ensures);
          },
          p.0,
          p.1,
          p.2,
        ),
      ),
    )

same-length-5 : tie.Need-shape_of-numbers
same-length-5 c = search rules

same-length-6 : tie.Need-shape_of-doubles
same-length-6 c = search rules

same-length-7 : tie.Need-shape_of-factor_numbers
same-length-7 c = search rules

same-length-8 : tie.Need-shape_of-factor_coeffs
same-length-8 c = search rules

returns-2 : tie.Need-returns
returns-2 c =
    let x : tie.After-exchange = search in
    let t = touch-at x in
    let i = test_at t in
    let b = column_at_holds i in
    let s = entry b in
    entered_goes (Q s) (S s) s.args.e s.args.x (vec b) (is_column b) (sym (i.listed_finite.ensures _) ∙ not-false _ i.if-not-listed_finite.false-raw) _
    (touched_is _ _ _ _ _ refl t.touch-touched.ensures) _ (x.exchange.ensures t.touch-touched.new.marks)

pub enter_spec : {M : Type 1} → statement M
enter_spec =
    tie.close
    (tie.spec
    column-requires
    listed-finite-requires
    same_length
    same-length-2
    same-length-3
    same-length-4
    returns
    touch-requires
    exchange-requires
    same-length-5
    same-length-6
    same-length-7
    same-length-8
    returns-2)
