-- `fix_basic::leave` meets its contract: the dual step with this row. Assumes nothing.
use borrow.Author.Rules.{rules}
use mathlib.Core.Path.{sym, ap}
use native.Mathlib.Omega.{arith}
use lib.Ieee.{eq, nan}
use Rattle.doubles.specs.Limits.{max_rows}
use Rattle.rules.specs.Plan.{Problem, State}
use Rattle.state.specs.Packed.{state_in, basic_var_vals_at}
use Rattle.state.proofs.Sections.{section_at}
use Rattle.step_refactor.specs.Left.{stepped}
use Rattle.fix_basic.proofs.Laws.{fix_step_is}
use Rattle.fix_basic.proofs.leave.Statement.{statement}
use Rattle.fix_basic.proofs.leave.Tie as tie

-- the problem and the state at entry
abbrev Q : tie.Start → Problem
Q s = let a = s.args in stepped a.n a.lowers.now a.uppers.now a.starts.now a.cols.now a.coeffs.now a.ops.now a.kept.now

abbrev S : tie.Start → State
S s = state_in s.args.numbers.now s.args.doubles.now s.args.factor_numbers.now s.args.factor_coeffs.now s.args.at

add-still : tie.Need-overflow_add-still
add-still c = search rules

mul-still : tie.Need-offset_bounds-doubles-row
mul-still c = search rules

slice-read-still : tie.Need-bounds-doubles-row
slice-read-still c = search rules

dual-step-requires : tie.Need-dual_step-requires
dual-step-requires c κs = search rules

same_length : tie.Need-shape_of-numbers
same_length c = search rules

same-length-2 : tie.Need-shape_of-doubles
same-length-2 c = search rules

same-length-3 : tie.Need-shape_of-factor_numbers
same-length-3 c = search rules

same-length-4 : tie.Need-shape_of-factor_coeffs
same-length-4 c = search rules

returns : tie.Need-returns
returns c =
    let s : tie.Start = search in
    let d : tie.After-dual_step = search in
    let f = s.requires.0.problem_fits in
    fix_step_is (Q s) (S s) s.args.row s.args.value
    (ap (λ x. eq x s.args.value) (sym (section_at basic_var_vals_at max_rows s.args.doubles.now s.args.row nan
    (omega (arith, s.requires.1.2, f.few, f.plan.rows_most))))) _ d.dual_step.ensures

pub leave_spec : {M : Type 1} → statement M
leave_spec =
    tie.close
    (tie.spec
    add-still
    mul-still
    slice-read-still
    dual-step-requires
    same_length
    same-length-2
    same-length-3
    same-length-4
    returns)
