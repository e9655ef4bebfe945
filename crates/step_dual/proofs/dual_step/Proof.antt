-- `step_dual::dual_step` meets its contract: what was decided, then the column and the exchange. Assumes nothing.
use borrow.Author.Rules.{rules}
use mathlib.Core.Path.{◌≡◌, refl, sym, ap, ◌∙◌}
use native.Mathlib.Omega.{arith}
use Rattle.rules.specs.Plan.{Problem, State}
use Rattle.rules.specs.Parts.{rowed}
use Rattle.rules.specs.Basis.{inv_row}
use Rattle.basis_rows.proofs.Parts.{fresh_blank}
use Rattle.state.specs.Packed.{state_in}
use Rattle.step_refactor.specs.Left.{stepped}
use Rattle.step_dual.proofs.Laws.{found_enters, dual_stops, enters_found, dual_enters}
use Rattle.step_dual.proofs.dual_step.Statement.{statement}
use Rattle.step_dual.proofs.dual_step.Tie as tie

-- the problem, its rows and the state at entry
abbrev Q : tie.Start → Problem
Q s = stepped s.args.n s.args.lowers.now s.args.uppers.now s.args.starts.now s.args.cols.now s.args.coeffs.now s.args.ops.now s.args.kept.now

abbrev R : tie.Start → Problem
R s = rowed s.args.n s.args.starts.now s.args.cols.now s.args.coeffs.now s.args.kept.now

abbrev S : tie.Start → State
S s = state_in s.args.numbers.now s.args.doubles.now s.args.factor_numbers.now s.args.factor_coeffs.now s.args.at

-- the way back from the decision
abbrev entry : tie.After-decide-decided → tie.Start
entry d = search

abbrev decided-at : tie.In-Enters → tie.After-decide-decided
decided-at w = search

abbrev enter-at : tie.After-enter → tie.In-Enters
enter-at x = search

decide-requires : tie.Need-decide-decided-requires
decide-requires c κs =
    let s : tie.Start = search in
    (fresh_blank, (record { lowers = s.args.lowers.now; uppers = s.args.uppers.now; ops = s.args.ops.now; ready = s.requires.0 }, s.requires.1.2))

enum-known-decided : tie.Need-enum_known-decided
enum-known-decided c = search rules

same_length : tie.Need-shape_of-numbers-in-Stops
same_length c = search rules

same-length-2 : tie.Need-shape_of-doubles-in-Stops
same-length-2 c = search rules

same-length-3 : tie.Need-shape_of-factor_numbers-in-Stops
same-length-3 c = search rules

same-length-4 : tie.Need-shape_of-factor_coeffs-in-Stops
same-length-4 c = search rules

returns : tie.Need-returns-in-Stops
returns c =
    let d : tie.After-decide-decided = search in
    let s = entry d in
    let w : tie.In-Stops = search in
    dual_stops s.args.still (Q s) (S s) s.args.l d.decide-decided.result d.decide-decided.new.y d.decide-decided.new.y_marks d.decide-decided.new.y_list d.decide-decided.ensures _ w.in-Stops.is

enum-known-decided-2 : tie.Need-enum_known-decided-in-Enters-1
enum-known-decided-2 c = search rules

enter-requires : tie.Need-enter-requires
enter-requires c κs =
    let w : tie.In-Enters = search in
    let d = decided-at w in
    let s = entry d in
    let f = enters_found s.args.still (Q s) (S s) s.args.l d.decide-decided.result d.decide-decided.new.y d.decide-decided.new.y_marks d.decide-decided.new.y_list d.decide-decided.ensures _ _ _ w.in-Enters.is in
    let q = found_enters s.requires.0 s.args.still s.args.l _ _ _ f in (
      s.requires.0,
      (
        (s.requires.1.0, s.requires.1.1),
        (q.2, omega (arith, q.1, s.requires.1.2), record { marks = d.decide-decided.new.y_marks; is = q.0 ∙ ap (inv_row (R s) (S s)) (sym q.1) }),
      ),
    )

same-length-5 : tie.Need-shape_of-numbers-in-Enters
same-length-5 c = search rules

same-length-6 : tie.Need-shape_of-doubles-in-Enters
same-length-6 c = search rules

same-length-7 : tie.Need-shape_of-factor_numbers-in-Enters
same-length-7 c = search rules

same-length-8 : tie.Need-shape_of-factor_coeffs-in-Enters
same-length-8 c = search rules

returns-2 : tie.Need-returns-in-Enters
returns-2 c =
    let x : tie.After-enter = search in
    let w = enter-at x in
    let d = decided-at w in
    let s = entry d in
    dual_enters s.args.still (Q s) (S s) s.args.l d.decide-decided.result d.decide-decided.new.y d.decide-decided.new.y_marks d.decide-decided.new.y_list d.decide-decided.ensures _ _ _ w.in-Enters.is _
    x.enter.ensures

pub dual_step_spec : {M : Type 1} → statement M
dual_step_spec =
    tie.close
    (tie.spec
    decide-requires
    enum-known-decided
    same_length
    same-length-2
    same-length-3
    same-length-4
    returns
    enum-known-decided-2
    enter-requires
    same-length-5
    same-length-6
    same-length-7
    same-length-8
    returns-2)
