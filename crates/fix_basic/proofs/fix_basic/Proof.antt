-- `fix_basic::fix_basic` meets its contract: the dual step, the mark, then the run. Assumes nothing.
use borrow.Author.Rules.{rules}
use mathlib.Core.Path.{◌≡◌, sym, ap, ◌∙◌}
use mathlib.Core.List.{List}
use Prim.Native.Nat.{ℕ}
use native.Mathlib.Omega.{arith}
use lib.Ieee.{Float}
use borrow.Author.Tests.{ne_eqb}
use Rattle.rules.specs.Plan.{Problem, State}
use Rattle.state.specs.Packed.{state_in}
use Rattle.step_refactor.specs.Left.{left_by, after}
use Rattle.std.specs.Prelude.{Result}
use Rattle.state.specs.declared.Tally.{Tally}
use Rattle.rules.specs.declared.Stop.{Stop}
use Rattle.step.proofs.Laws.{stepped_of}
use Rattle.fix_rules.specs.Fix.{marked, fix_step}
use Rattle.fix_basic.specs.Lent.{called_of}
use Rattle.fix_basic.proofs.Laws.{readies, column_below, cell_is, mark_asks, marked_runs, basic_spends, basic_stops, basic_goes}
use Rattle.fix_basic.proofs.fix_basic.Statement.{statement}
use Rattle.fix_basic.proofs.fix_basic.Tie as tie

-- the problem and the state at entry
abbrev P : tie.Start → Problem
P s = let a = s.args in called_of a.n a.budget a.lowers.now a.uppers.now a.starts.now a.cols.now a.coeffs.now a.ops.now a.kept.now

abbrev S : tie.Start → State
S s = state_in s.args.numbers.now s.args.doubles.now s.args.factor_numbers.now s.args.factor_coeffs.now s.args.at

-- the way back, and the arrays as the dual step leaves them
abbrev entry : tie.After-leave-went → tie.Start
entry d = search

abbrev test_at : tie.After-leave-went → tie.Else-budget-eq0
test_at d = search

abbrev M : tie.After-leave-went → List ℕ
M d = d.leave-went.new.numbers

abbrev E : tie.After-leave-went → List Float
E d = d.leave-went.new.doubles

abbrev H : tie.After-leave-went → List ℕ
H d = d.leave-went.new.factor_numbers

abbrev J : tie.After-leave-went → List Float
J d = d.leave-went.new.factor_coeffs

-- from place to place
abbrev going : tie.In-Ok → tie.After-leave-went
going w = search

abbrev marking : tie.After-mark → tie.After-leave-went
marking k = search

left : (d : tie.After-leave-went) (r : Result Tally Stop) → d.leave-went.result ≡ r
    → let s = entry d in
    left_by r (M d) (E d) (H d) (J d) ≡ after (S s) (fix_step (stepped_of (P s)) (S s) s.args.row s.args.value)
left d r e = ap (λ (w : Result Tally Stop). left_by w (M d) (E d) (H d) (J d)) (sym e) ∙ d.leave-went.ensures

returns : tie.Need-returns-then-budget-eq0
returns c =
    let s : tie.Start = search in
    basic_spends (P s) (S s) s.args.row s.args.value s.args.j c.if-budget-eq0.true

leave-requires : tie.Need-leave-went-requires
leave-requires c κs =
    let s : tie.Start = search in
    let p = s.requires.1 in
    (readies s.requires.0.0 s.requires.0.1, (p.0, p.1, s.requires.0.2.row_inside))

enum-known-went : tie.Need-enum_known-went
enum-known-went c = search rules

same_length : tie.Need-shape_of-numbers-in-Err
same_length c = search rules

same-length-2 : tie.Need-shape_of-doubles-in-Err
same-length-2 c = search rules

same-length-3 : tie.Need-shape_of-factor_numbers-in-Err
same-length-3 c = search rules

same-length-4 : tie.Need-shape_of-factor_coeffs-in-Err
same-length-4 c = search rules

returns-2 : tie.Need-returns-in-Err
returns-2 c =
    let w : tie.In-Err = search in
    let d : tie.After-leave-went = search in
    let s = entry d in
    basic_stops (P s) (S s) s.args.row s.args.value s.args.j (ne_eqb _ _ (test_at d).if-budget-eq0.false) _ _ _ _
    (left d _ w.in-Err.is)

enum-known-went-2 : tie.Need-enum_known-went-in-Ok-1
enum-known-went-2 c = search rules

add-col : tie.Need-overflow_add-col
add-col c =
    let w : tie.In-Ok = search in
    let s = entry (going w) in
    omega (arith, column_below s.requires.0.0 s.args.j s.requires.0.2.column)

mul-col : tie.Need-offset_bounds-numbers-j
mul-col c =
    let w : tie.In-Ok = search in
    let s = entry (going w) in
    omega (arith, column_below s.requires.0.0 s.args.j s.requires.0.2.column)

slice-read-col : tie.Need-bounds-numbers-j
slice-read-col c =
    let w : tie.In-Ok = search in
    let d = going w in
    let s = entry d in
    omega (arith, column_below s.requires.0.0 s.args.j s.requires.0.2.column, d.leave-went.auto.numbers, s.requires.0.0.sized)

mark-requires : tie.Need-mark-requires
mark-requires c κs =
    let w : tie.In-Ok = search in
    let d = going w in
    let s = entry d in
    mark_asks s.requires.0.0 s.args.j s.args.row s.args.value s.requires.0.2 (M d) (E d) (H d) (J d) _
    d.leave-went.auto.numbers d.leave-went.auto.doubles (left d _ w.in-Ok.is)

both-requires : tie.Need-both-requires
both-requires c κs =
    let k : tie.After-mark = search in
    let w : tie.In-Ok = search in
    let d = going w in
    let s = entry d in (
      marked_runs s.requires.0.0 s.args.j s.args.row s.args.value s.requires.0.2 (M d) (E d) (H d) (J d) _
          d.leave-went.auto.numbers d.leave-went.auto.doubles (left d _ w.in-Ok.is) k.mark.new.numbers _ k.mark.auto.numbers
          (k.mark.ensures (E d) (H d) (J d) _),
      s.requires.1,
    )

same-length-5 : tie.Need-shape_of-numbers-in-Ok
same-length-5 c =
    let b : tie.After-both = search in
    let k : tie.After-mark = search in
    let d = marking k in
    b.both.auto.numbers ∙ k.mark.auto.numbers ∙ d.leave-went.auto.numbers

same-length-6 : tie.Need-shape_of-doubles-in-Ok
same-length-6 c =
    let b : tie.After-both = search in
    let k : tie.After-mark = search in
    let d = marking k in
    b.both.auto.doubles ∙ d.leave-went.auto.doubles

same-length-7 : tie.Need-shape_of-factor_numbers-in-Ok
same-length-7 c =
    let b : tie.After-both = search in
    let k : tie.After-mark = search in
    let d = marking k in
    b.both.auto.factor_numbers ∙ d.leave-went.auto.factor_numbers

same-length-8 : tie.Need-shape_of-factor_coeffs-in-Ok
same-length-8 c =
    let b : tie.After-both = search in
    let k : tie.After-mark = search in
    let d = marking k in
    b.both.auto.factor_coeffs ∙ d.leave-went.auto.factor_coeffs

returns-3 : tie.Need-returns-in-Ok
returns-3 c =
    let b : tie.After-both = search in
    let k : tie.After-mark = search in
    let w : tie.In-Ok = search in
    let d = going w in
    let s = entry d in
    let t = state_in (M d) (E d) (H d) (J d) _ in
    basic_goes (P s) (S s) s.args.row s.args.value s.args.j (ne_eqb _ _ (test_at d).if-budget-eq0.false) t
    (left d _ w.in-Ok.is) _
    (k.mark.ensures (E d) (H d) (J d) _ ∙ ap (marked t) (cell_is (M d) (E d) s.args.j (column_below s.requires.0.0 s.args.j s.requires.0.2.column)))
    _ b.both.ensures

pub fix_basic_spec : {M : Type 1} → statement M
fix_basic_spec =
    tie.close
    (tie.spec
    returns
    leave-requires
    enum-known-went
    same_length
    same-length-2
    same-length-3
    same-length-4
    returns-2
    enum-known-went-2
    add-col
    mul-col
    slice-read-col
    mark-requires
    both-requires
    same-length-5
    same-length-6
    same-length-7
    same-length-8
    returns-3)
