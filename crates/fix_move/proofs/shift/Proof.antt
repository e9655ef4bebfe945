-- `fix_move::shift` meets its contract: what was found of the column and of the new numbers, and the store. Assumes nothing.
use borrow.Author.Rules.{rules}
use mathlib.Core.Path.{◌≡◌, refl, sym, ◌∙◌}
use mathlib.Core.List.{List}
use Prim.Native.Nat.{ℕ}
use lib.Ieee.{Float}
use borrow.Author.Tests.{not-true, not-false}
use Rattle.doubles.specs.Lists.{◌#◌}
use Rattle.sparse.specs.Scattered.{Sv, sv}
use Rattle.rules.specs.Plan.{Problem, State}
use Rattle.rules.specs.Parts.{rowed}
use Rattle.rules.specs.Basis.{column_coeffs}
use Rattle.basis_columns.specs.Columns.{ByColumns}
use Rattle.basis_columns.proofs.Callers.{columns_part}
use Rattle.basis_rows.proofs.Parts.{fresh_blank}
use Rattle.state.specs.Packed.{state_in}
use Rattle.step_refactor.specs.Left.{stepped}
use Rattle.step.proofs.Laws.{column_asks, listed_asks, column_listing}
use Rattle.fix_rules.specs.Fix.{fix_column}
use Rattle.fix_move.proofs.Laws.{at_place, shift_bad, shift_unsound, shift_moves}
use Rattle.fix_move.proofs.shift.Statement.{statement}
use Rattle.fix_move.proofs.shift.Tie as tie

-- the state at entry, and the rows that the columns are of
abbrev S : tie.Start → State
S s = state_in s.args.numbers.now s.args.doubles.now s.args.factor_numbers.now s.args.factor_coeffs.now s.args.at

abbrev Q : tie.Start → List ℕ → List ℕ → List Float → Problem
Q s starts cols coeffs = rowed s.args.n starts cols coeffs s.args.kept.now

abbrev Turned : tie.Start → List ℕ → List ℕ → List Float → Type 0
Turned s starts cols coeffs = ByColumns (Q s starts cols coeffs) s.args.cstarts.now s.args.crows.now s.args.ccoeffs.now

-- the way back to the entry, and the column that the solve leaves
abbrev entry : tie.After-column-count → tie.Start
entry b = search

abbrev vec : tie.After-column-count → Sv
vec b = let l = b.column-count.new in sv l.values l.marks l.list b.column-count.result

is_column : (b : tie.After-column-count) (starts cols : List ℕ) (coeffs : List Float) → Turned (entry b) starts cols coeffs
    → vec b ≡ fix_column (Q (entry b) starts cols coeffs) (S (entry b)) (entry b).args.col (entry b).args.value
is_column b starts cols coeffs m = b.column-count.ensures (Q (entry b) starts cols coeffs) refl refl m

-- the problem that is asked for, whose bounds aren't lent
abbrev whole : tie.Start → Problem
whole s =
    let a = s.requires.0 in
    let r = a.ready_by in
    stepped s.args.n a.lowers a.uppers r.starts r.cols r.coeffs a.ops s.args.kept.now

column_asked : (b : tie.After-column-count)
    → vec b ≡ column_coeffs (whole (entry b)) (S (entry b)) ((S (entry b)).ws.nb_vars # (entry b).args.col)
column_asked b = b.column-count.ensures (whole (entry b)) refl refl (columns_part (whole (entry b)) (entry b).requires.0.ready_by.by_columns)

-- and from place to place
abbrev column_at_holds : tie.Else-not-listed_finite → tie.After-column-count
column_at_holds x = search

abbrev tested : tie.Else-not-shift_finite → tie.Else-not-listed_finite
tested x = search

column-requires : tie.Need-column-count-requires
column-requires c κs =
    let s : tie.Start = search in
    let a = s.requires.0.ready_by in
    let q = column_asks a.ready (at_place s.args.col) s.requires.1 a.by_columns a.starts_long in
    ((a.ready.sized, fresh_blank, q.0), (q.1, q.2))

listed-finite-requires : tie.Need-listed_finite-requires
listed-finite-requires c κs =
    let b : tie.After-column-count = search in
    let s = entry b in
    listed_asks s.requires.0.ready_by.ready (at_place s.args.col) s.requires.1 (column_asked b)

same_length : tie.Need-shape_of-numbers-then-not-listed_finite
same_length c = search rules

same-length-2 : tie.Need-shape_of-doubles-then-not-listed_finite
same-length-2 c = search rules

returns : tie.Need-returns-then-not-listed_finite
returns c st co cf m =
    let b : tie.After-column-count = search in
    let s = entry b in
    shift_bad (Q s st co cf) (S s) s.args.col s.args.value (vec b) (is_column b st co cf m)
    (sym (c.listed_finite.ensures _) ∙ not-true _ c.if-not-listed_finite.true-raw)

shift-finite-requires : tie.Need-shift_finite-requires
shift-finite-requires c κs =
    let b : tie.After-column-count = search in
    let s = entry b in
    let a = s.requires.0.ready_by in
    let q = column_asks a.ready (at_place s.args.col) s.requires.1 a.by_columns a.starts_long in
    (a.ready.sized.doubles_long, q.0, column_listing a.ready (at_place s.args.col) s.requires.1 (column_asked b))

same-length-3 : tie.Need-shape_of-numbers-then-not-shift_finite
same-length-3 c = search rules

same-length-4 : tie.Need-shape_of-doubles-then-not-shift_finite
same-length-4 c = search rules

returns-2 : tie.Need-returns-then-not-shift_finite
returns-2 c st co cf m =
    let x : tie.Else-not-listed_finite = search in
    let b = column_at_holds x in
    let s = entry b in
    shift_unsound (Q s st co cf) (S s) s.args.col s.args.value (vec b) (is_column b st co cf m)
    (sym (x.listed_finite.ensures _) ∙ not-false _ x.if-not-listed_finite.false-raw)
    (sym (c.shift_finite.ensures s.args.numbers.now s.args.factor_numbers.now s.args.factor_coeffs.now b.column-count.new.marks) ∙ not-true _ c.if-not-shift_finite.true-raw)

store-shift-requires : tie.Need-store_shift-requires
store-shift-requires c κs =
    let b : tie.After-column-count = search in
    let s = entry b in
    let a = s.requires.0.ready_by in
    let q = column_asks a.ready (at_place s.args.col) s.requires.1 a.by_columns a.starts_long in
    (a.ready.sized, q.0, column_listing a.ready (at_place s.args.col) s.requires.1 (column_asked b))

same-length-5 : tie.Need-shape_of-numbers
same-length-5 c = search rules

same-length-6 : tie.Need-shape_of-doubles
same-length-6 c = search rules

returns-3 : tie.Need-returns
returns-3 c st co cf m =
    let k : tie.After-store_shift = search in
    let y : tie.Else-not-shift_finite = search in
    let x = tested y in
    let b = column_at_holds x in
    let s = entry b in
    shift_moves (Q s st co cf) (S s) s.args.col s.args.value (vec b) (is_column b st co cf m)
    (sym (x.listed_finite.ensures _) ∙ not-false _ x.if-not-listed_finite.false-raw)
    (sym (y.shift_finite.ensures s.args.numbers.now s.args.factor_numbers.now s.args.factor_coeffs.now b.column-count.new.marks) ∙ not-false _ y.if-not-shift_finite.false-raw) (k.store_shift.ensures s.args.factor_numbers.now s.args.factor_coeffs.now b.column-count.new.marks)

pub shift_spec : {M : Type 1} → statement M
shift_spec =
    tie.close
    (tie.spec
    column-requires
    listed-finite-requires
    same_length
    same-length-2
    returns
    shift-finite-requires
    same-length-3
    same-length-4
    returns-2
    store-shift-requires
    same-length-5
    same-length-6
    returns-3)
