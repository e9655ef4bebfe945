-- `fix_run::fixed` meets its contract: the matrix by columns, then the part for where the column stands. Assumes nothing.
use borrow.Author.Rules.{rules}
use mathlib.Core.Path.{◌≡◌, sym, ap, ◌∙◌}
use Prim.Native.Nat.{◌+◌}
use native.Mathlib.Omega.{arith}
use Rattle.rules.specs.Plan.{Problem, State, var_state_of}
use Rattle.rules.specs.declared.VarState.{VarState}
use Rattle.state.specs.Packed.{state_in, var_states_at}
use Rattle.doubles.specs.Lists.{◌#◌}
use Rattle.check_final.proofs.Laws.{place_cell}
use Rattle.run_launch.proofs.Laws.{transposes}
use Rattle.fix_basic.specs.Lent.{called_of}
use Rattle.fix_basic.proofs.Laws.{column_below, cell_is, stands_in, fixed_by}
use Rattle.fix_run.proofs.fixed.Statement.{statement}
use Rattle.fix_run.proofs.fixed.Tie as tie

-- the problem and the state at entry
abbrev P : tie.Start → Problem
P s = let a = s.args in called_of a.n a.budget a.lowers.now a.uppers.now a.starts.now a.cols.now a.coeffs.now a.ops.now a.kept.now

abbrev S : tie.Start → State
S s = state_in s.args.numbers.now s.args.doubles.now s.args.factor_numbers.now s.args.factor_coeffs.now s.args.at

-- the way back
abbrev entry : tie.After-by_columns → tie.Start
entry b = search

abbrev columns_at : tie.After-var_state-standing → tie.After-by_columns
columns_at v = search

-- how the column stands, by its cell and by the workspace's
stands : (v : tie.After-var_state-standing) (x : VarState) → v.var_state-standing.result ≡ x
    → let s = entry (columns_at v) in
    var_state_of s.args.n (s.args.numbers.now # (var_states_at + s.args.j)) ≡ x
stands v x e = sym v.var_state-standing.ensures ∙ e

told : (v : tie.After-var_state-standing) (x : VarState) → v.var_state-standing.result ≡ x
    → let s = entry (columns_at v) in
    x ≡ var_state_of s.args.n ((S s).ws.var_states # s.args.j)
told v x e =
    let s = entry (columns_at v) in
    let a = s.args in
    sym (stands v x e)
    ∙ ap (var_state_of a.n) (cell_is a.numbers.now a.doubles.now a.j (column_below s.requires.0 a.j s.requires.2))

by-columns-requires : tie.Need-by_columns-requires
by-columns-requires c κs = let s : tie.Start = search in
    (transposes s.requires.0, search)

add-var-state : tie.Need-overflow_add-j
add-var-state c = search rules

mul-var-state : tie.Need-offset_bounds-numbers-j
mul-var-state c = search rules

slice-read-var-state : tie.Need-bounds-numbers-j
slice-read-var-state c = search rules

var-state-requires : tie.Need-var_state-standing-requires
var-state-requires c κs = search rules

enum-known-standing : tie.Need-enum_known-standing
enum-known-standing c = search rules

slice-aggregate-fix-non-basic : tie.Need-slice_bounds-fix_non_basic-end
slice-aggregate-fix-non-basic c = let b : tie.After-by_columns = search in
    sym b.by_columns.ensures.1

slice-aggregate-fix-non-basic-2 : tie.Need-slice_bounds-fix_non_basic-end-in-NonBasic
slice-aggregate-fix-non-basic-2 c = search rules

slice-aggregate-fix-non-basic-3 : tie.Need-slice_bounds-fix_non_basic-end-in-NonBasic-2
slice-aggregate-fix-non-basic-3 c = search rules

fix-non-basic-requires : tie.Need-fix_non_basic-requires
fix-non-basic-requires c κs =
    let w : tie.In-NonBasic = search in
    let v : tie.After-var_state-standing = search in
    let b = columns_at v in
    let s = entry b in (
      (s.requires.0, s.requires.1, place_cell s.args.n _ _ (stands v _ w.in-NonBasic.is)),
      (b.by_columns.ensures.0, omega (arith, b.by_columns.ensures.1, s.requires.0.problem_fits.plan.columns_most), s.requires.3),
    )

same_length : tie.Need-shape_of-numbers-in-NonBasic
same_length c = search rules

same-length-2 : tie.Need-shape_of-doubles-in-NonBasic
same-length-2 c = search rules

same-length-3 : tie.Need-shape_of-factor_numbers-in-NonBasic
same-length-3 c = search rules

same-length-4 : tie.Need-shape_of-factor_coeffs-in-NonBasic
same-length-4 c = search rules

returns : tie.Need-returns-in-NonBasic
returns c =
    let f : tie.After-fix_non_basic = search in
    let w : tie.In-NonBasic = search in
    let v : tie.After-var_state-standing = search in
    let s = entry (columns_at v) in
    f.fix_non_basic.ensures ∙ fixed_by (P s) (S s) s.args.j s.args.value _ (told v _ w.in-NonBasic.is)

enum-known-standing-2 : tie.Need-enum_known-standing-in-Basic-1
enum-known-standing-2 c = search rules

slice-aggregate-fix-basic : tie.Need-slice_bounds-fix_basic-end
slice-aggregate-fix-basic c = let b : tie.After-by_columns = search in
    sym b.by_columns.ensures.1

slice-aggregate-fix-basic-2 : tie.Need-slice_bounds-fix_basic-end-in-Basic
slice-aggregate-fix-basic-2 c = search rules

slice-aggregate-fix-basic-3 : tie.Need-slice_bounds-fix_basic-end-in-Basic-2
slice-aggregate-fix-basic-3 c = search rules

fix-basic-requires : tie.Need-fix_basic-requires
fix-basic-requires c κs =
    let w : tie.In-Basic = search in
    let v : tie.After-var_state-standing = search in
    let b = columns_at v in
    let s = entry b in (
      (s.requires.0, s.requires.1, stands_in s.requires.0 s.args.j s.requires.2 _ (stands v _ w.in-Basic.is)),
      (b.by_columns.ensures.0, omega (arith, b.by_columns.ensures.1, s.requires.0.problem_fits.plan.columns_most), s.requires.3),
    )

same-length-5 : tie.Need-shape_of-numbers-in-Basic
same-length-5 c = search rules

same-length-6 : tie.Need-shape_of-doubles-in-Basic
same-length-6 c = search rules

same-length-7 : tie.Need-shape_of-factor_numbers-in-Basic
same-length-7 c = search rules

same-length-8 : tie.Need-shape_of-factor_coeffs-in-Basic
same-length-8 c = search rules

returns-2 : tie.Need-returns-in-Basic
returns-2 c =
    let f : tie.After-fix_basic = search in
    let w : tie.In-Basic = search in
    let v : tie.After-var_state-standing = search in
    let s = entry (columns_at v) in
    f.fix_basic.ensures ∙ fixed_by (P s) (S s) s.args.j s.args.value _ (told v _ w.in-Basic.is)

pub fixed_spec : {M : Type 1} → statement M
fixed_spec =
    tie.close
    (tie.spec
    by-columns-requires
    add-var-state
    mul-var-state
    slice-read-var-state
    var-state-requires
    enum-known-standing
    slice-aggregate-fix-non-basic
    slice-aggregate-fix-non-basic-2
    slice-aggregate-fix-non-basic-3
    fix-non-basic-requires
    same_length
    same-length-2
    same-length-3
    same-length-4
    returns
    enum-known-standing-2
    slice-aggregate-fix-basic
    slice-aggregate-fix-basic-2
    slice-aggregate-fix-basic-3
    fix-basic-requires
    same-length-5
    same-length-6
    same-length-7
    same-length-8
    returns-2)
