-- `fix_run::fix_non_basic` meets its contract: the move, then the run. Assumes nothing.
use borrow.Author.Rules.{rules}
use mathlib.Core.Path.{◌≡◌, sym, ap, ◌∙◌}
use mathlib.Core.List.{List}
use Prim.Native.Nat.{ℕ}
use lib.Ieee.{Float}
use Rattle.rules.specs.Plan.{Problem, State}
use Rattle.rules.specs.Parts.{rowed}
use Rattle.state.specs.Packed.{state_in}
use Rattle.step_refactor.specs.Left.{left_by}
use Rattle.std.specs.Prelude.{Result}
use Rattle.state.specs.declared.Tally.{Tally}
use Rattle.rules.specs.declared.Stop.{Stop}
use Rattle.fix_move.specs.Shift.{shift_left}
use Rattle.fix_basic.specs.Lent.{called_of}
use Rattle.fix_basic.proofs.Laws.{moves_asks, shift_runs, non_basic_stops, non_basic_goes}
use Rattle.fix_run.proofs.fix_non_basic.Statement.{statement}
use Rattle.fix_run.proofs.fix_non_basic.Tie as tie

-- the problem and the state at entry
abbrev P : tie.Start → Problem
P s = let a = s.args in called_of a.n a.budget a.lowers.now a.uppers.now a.starts.now a.cols.now a.coeffs.now a.ops.now a.kept.now

abbrev S : tie.Start → State
S s = state_in s.args.numbers.now s.args.doubles.now s.args.factor_numbers.now s.args.factor_coeffs.now s.args.at

-- the way back, and the arrays as the move leaves them
abbrev entry : tie.After-shift-went → tie.Start
entry m = search

abbrev M : tie.After-shift-went → List ℕ
M m = m.shift-went.new.numbers

abbrev E : tie.After-shift-went → List Float
E m = m.shift-went.new.doubles

left : (m : tie.After-shift-went) (r : Result Tally Stop) → m.shift-went.result ≡ r
    → let s = entry m in
    let a = s.args in
    left_by r (M m) (E m) a.factor_numbers.now a.factor_coeffs.now
    ≡ shift_left (rowed a.n a.starts.now a.cols.now a.coeffs.now a.kept.now) (S s) a.col a.value
left m r e =
    let s = entry m in
    let a = s.args in
    ap (λ (w : Result Tally Stop). left_by w (M m) (E m) a.factor_numbers.now a.factor_coeffs.now) (sym e)
    ∙ m.shift-went.ensures a.starts.now a.cols.now a.coeffs.now s.requires.1.0

shift-requires : tie.Need-shift-went-requires
shift-requires c κs =
    let s : tie.Start = search in
    (moves_asks s.requires.0.0 s.requires.0.1 s.requires.1.0 s.requires.1.1, s.requires.0.2)

enum-known-went : tie.Need-enum_known-went
enum-known-went c = search rules

same_length : tie.Need-shape_of-numbers-in-Err
same_length c = search rules

same-length-2 : tie.Need-shape_of-doubles-in-Err
same-length-2 c = search rules

same-length-3 : tie.Need-shape_of-factor_numbers-in-Err
same-length-3 c = search rules

same-length-4 : tie.Need-shape_of-factor_coeffs-in-Err
same-length-4 c = search rules

returns : tie.Need-returns-in-Err
returns c =
    let w : tie.In-Err = search in
    let m : tie.After-shift-went = search in
    let s = entry m in
    non_basic_stops (P s) (S s) s.args.col s.args.value _ _ _ _ (left m _ w.in-Err.is)

enum-known-went-2 : tie.Need-enum_known-went-in-Ok-1
enum-known-went-2 c = search rules

both-requires : tie.Need-both-requires
both-requires c κs =
    let w : tie.In-Ok = search in
    let m : tie.After-shift-went = search in
    let s = entry m in (
      shift_runs s.requires.0.0 s.args.col s.args.value (M m) (E m) _ m.shift-went.auto.numbers m.shift-went.auto.doubles
          (left m _ w.in-Ok.is),
      s.requires.1,
    )

same-length-5 : tie.Need-shape_of-numbers-in-Ok
same-length-5 c = search rules

same-length-6 : tie.Need-shape_of-doubles-in-Ok
same-length-6 c = search rules

same-length-7 : tie.Need-shape_of-factor_numbers-in-Ok
same-length-7 c = search rules

same-length-8 : tie.Need-shape_of-factor_coeffs-in-Ok
same-length-8 c = search rules

returns-2 : tie.Need-returns-in-Ok
returns-2 c =
    let b : tie.After-both = search in
    let w : tie.In-Ok = search in
    let m : tie.After-shift-went = search in
    let s = entry m in
    non_basic_goes (P s) (S s) s.args.col s.args.value _ (left m _ w.in-Ok.is) _ b.both.ensures

pub fix_non_basic_spec : {M : Type 1} → statement M
fix_non_basic_spec =
    tie.close
    (tie.spec
    shift-requires
    enum-known-went
    same_length
    same-length-2
    same-length-3
    same-length-4
    returns
    enum-known-went-2
    both-requires
    same-length-5
    same-length-6
    same-length-7
    same-length-8
    returns-2)
