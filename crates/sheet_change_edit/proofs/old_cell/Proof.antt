-- `sheet_change_edit::old_cell` meets its contract. Arm by arm. Assumes nothing.
use mathlib.Core.Path.{◌≡◌, ◌∙◌}
use Prim.Native.Nat.{ℕ, ◌+◌, ◌*◌, ◌<◌}
use native.Mathlib.Omega.{arith}
use lib.ListN.{length}
use lib.IntN.{ℤ}
use Rattle.sheet_rules.specs.Sum.{◌‼◌}
use Rattle.doubles.specs.Lists.{◌#◌}
use Rattle.sheet_rules.specs.Sheet.{Plan, plan_of}
use Rattle.sheet_rules.specs.declared.Edit.{Edit}
use Rattle.sheet_rules.proofs.Local.{place_in}
use Rattle.sheet_terms.proofs.Machine.{result}
use Rattle.sheet_change_edit.specs.declared.Cell.{Cell}
use Rattle.sheet_change_edit.proofs.Laws.{cell_is, no_cell}
use Rattle.sheet_change_edit.proofs.old_cell.Statement.{statement}
use Rattle.sheet_change_edit.proofs.old_cell.Tie as tie

abbrev cell : ℤ → ℕ → Cell
cell z m = record { number = z; mark = m }

abbrev p : tie.Start → Plan
p s = plan_of s.args.rows s.args.columns s.args.coefs.now s.args.costs.now s.args.lowers.now s.args.uppers.now s.args.lower_marks.now s.args.upper_marks.now s.args.rhs.now s.args.ops.now s.args.amounts.now s.args.mults.now

abbrev e : tie.Start → Edit
e s = s.args.e

-- kind 6's place
place : (s : tie.Start) → (e s).kind ≡ 6 → (e s).row * s.args.columns + (e s).column < length s.args.coefs.now
place s w = omega (arith, place_in (e s).row s.args.rows (e s).column s.args.columns (s.requires.1.row_within (rw w)) (s.requires.1.column_in_holds (rw w)), s.requires.0.coefs_long)

mul-t18 : tie.Need-offset_bounds-amounts-j
mul-t18 c = omega (arith, c.requires.1.column_in_holds (rw c.in-1.is), c.requires.0.amounts_long)

shared-slice-copy-out-t20 : tie.Need-bounds-amounts-j
shared-slice-copy-out-t20 c = omega (arith, c.requires.1.column_in_holds (rw c.in-1.is), c.requires.0.amounts_long)

mul-t21 : tie.Need-offset_bounds-costs-j
mul-t21 c = omega (arith, c.requires.1.column_in_holds (rw c.in-2.is), c.requires.0.costs_long)

shared-slice-copy-out-t23 : tie.Need-bounds-costs-j
shared-slice-copy-out-t23 c = omega (arith, c.requires.1.column_in_holds (rw c.in-2.is), c.requires.0.costs_long)

mul-t24 : tie.Need-offset_bounds-lowers-j
mul-t24 c = omega (arith, c.requires.1.column_in_holds (rw c.in-3.is), c.requires.0.lowers_long)

shared-slice-copy-out-t26 : tie.Need-bounds-lowers-j
shared-slice-copy-out-t26 c = omega (arith, c.requires.1.column_in_holds (rw c.in-3.is), c.requires.0.lowers_long)

shared-slice-read-t28 : tie.Need-bounds-lower_marks-j
shared-slice-read-t28 c = omega (arith, c.requires.1.column_in_holds (rw c.in-3.is), c.requires.0.lower_marks_long)

mul-t29 : tie.Need-offset_bounds-uppers-j
mul-t29 c = omega (arith, c.requires.1.column_in_holds (rw c.in-4.is), c.requires.0.uppers_long)

shared-slice-copy-out-t31 : tie.Need-bounds-uppers-j
shared-slice-copy-out-t31 c = omega (arith, c.requires.1.column_in_holds (rw c.in-4.is), c.requires.0.uppers_long)

shared-slice-read-t33 : tie.Need-bounds-upper_marks-j
shared-slice-read-t33 c = omega (arith, c.requires.1.column_in_holds (rw c.in-4.is), c.requires.0.upper_marks_long)

mul-t34 : tie.Need-offset_bounds-rhs-i
mul-t34 c = omega (arith, c.requires.1.row_within (rw c.in-5.is), c.requires.0.rhs_long)

shared-slice-copy-out-t36 : tie.Need-bounds-rhs-i
shared-slice-copy-out-t36 c = omega (arith, c.requires.1.row_within (rw c.in-5.is), c.requires.0.rhs_long)

mul-t37 : tie.Need-overflow_mul-result
mul-t37 c = omega (arith, place c.before c.in-6.is)

add-t38 : tie.Need-overflow_add-result
add-t38 c = omega (arith, place c.before c.in-6.is)

mul-t39 : tie.Need-offset_bounds-coefs-i
mul-t39 c = omega (arith, place c.before c.in-6.is)

shared-slice-copy-out-t41 : tie.Need-bounds-coefs-i
shared-slice-copy-out-t41 c = omega (arith, place c.before c.in-6.is)

mul-t42 : tie.Need-offset_bounds-mults-i
mul-t42 c = omega (arith, c.requires.1.row_within (rw c.in-7.is), c.requires.0.mults_long)

shared-slice-copy-out-t44 : tie.Need-bounds-mults-i
shared-slice-copy-out-t44 c = omega (arith, c.requires.1.row_within (rw c.in-7.is), c.requires.0.mults_long)

mul-t45 : tie.Need-offset_bounds-lowers-j-in-8
mul-t45 c = omega (arith, c.requires.1.column_in_holds (rw c.in-8.is), c.requires.0.lowers_long)

shared-slice-copy-out-t47 : tie.Need-bounds-lowers-j-in-8
shared-slice-copy-out-t47 c = omega (arith, c.requires.1.column_in_holds (rw c.in-8.is), c.requires.0.lowers_long)

shared-slice-read-t49 : tie.Need-bounds-lower_marks-j-in-8
shared-slice-read-t49 c = omega (arith, c.requires.1.column_in_holds (rw c.in-8.is), c.requires.0.lower_marks_long)

mul-t50 : tie.Need-offset_bounds-uppers-j-in-9
mul-t50 c = omega (arith, c.requires.1.column_in_holds (rw c.in-9.is), c.requires.0.uppers_long)

shared-slice-copy-out-t52 : tie.Need-bounds-uppers-j-in-9
shared-slice-copy-out-t52 c = omega (arith, c.requires.1.column_in_holds (rw c.in-9.is), c.requires.0.uppers_long)

shared-slice-read-t54 : tie.Need-bounds-upper_marks-j-in-9
shared-slice-read-t54 c = omega (arith, c.requires.1.column_in_holds (rw c.in-9.is), c.requires.0.upper_marks_long)

returns : tie.Need-returns-in-1
returns c = let s = c.before.before in (λ h. cell (result (s.args.amounts.now ‼ (e s).column) c.result-1.given h) 1) ∙ cell_is (p s) (e s) 1 c.in-1.is

returns-2 : tie.Need-returns-in-2
returns-2 c = let s = c.before.before in (λ h. cell (result (s.args.costs.now ‼ (e s).column) c.result-in-2-1.given h) 1) ∙ cell_is (p s) (e s) 2 c.in-2.is

returns-3 : tie.Need-returns-in-3
returns-3 c = let s = c.before.before.before in (λ h. cell (result (s.args.lowers.now ‼ (e s).column) c.result-in-3-1.given h) (s.args.lower_marks.now # (e s).column)) ∙ cell_is (p s) (e s) 3 c.in-3.is

returns-4 : tie.Need-returns-in-4
returns-4 c = let s = c.before.before.before in (λ h. cell (result (s.args.uppers.now ‼ (e s).column) c.result-in-4-1.given h) (s.args.upper_marks.now # (e s).column)) ∙ cell_is (p s) (e s) 4 c.in-4.is

returns-5 : tie.Need-returns-in-5
returns-5 c = let s = c.before.before in (λ h. cell (result (s.args.rhs.now ‼ (e s).row) c.result-in-5-1.given h) 1) ∙ cell_is (p s) (e s) 5 c.in-5.is

returns-6 : tie.Need-returns-in-6
returns-6 c = let s = c.before.before in (λ h. cell (result (s.args.coefs.now ‼ ((e s).row * s.args.columns + (e s).column)) c.result-in-6-1.given h) 1) ∙ cell_is (p s) (e s) 6 c.in-6.is

returns-7 : tie.Need-returns-in-7
returns-7 c = let s = c.before.before in (λ h. cell (result (s.args.mults.now ‼ (e s).row) c.result-in-7-1.given h) 1) ∙ cell_is (p s) (e s) 7 c.in-7.is

returns-8 : tie.Need-returns-in-8
returns-8 c = let s = c.before.before.before in (λ h. cell (result (s.args.lowers.now ‼ (e s).column) c.result-in-8-1.given h) (s.args.lower_marks.now # (e s).column)) ∙ cell_is (p s) (e s) 8 c.in-8.is

returns-9 : tie.Need-returns-in-9
returns-9 c = let s = c.before.before.before in (λ h. cell (result (s.args.uppers.now ‼ (e s).column) c.result-in-9-1.given h) (s.args.upper_marks.now # (e s).column)) ∙ cell_is (p s) (e s) 9 c.in-9.is

returns-10 : tie.Need-returns-in_default
returns-10 c = let s = c.before in let r = c.in_default.in_default-own.rest in no_cell (p s) (e s) r.0.0.0.0.0.0.0.0.1 r.0.0.0.0.0.0.0.1 r.0.0.0.0.0.0.1 r.0.0.0.0.0.1 r.0.0.0.0.1 r.0.0.0.1 r.0.0.1 r.0.1 r.1

pub old_cell_spec : {M : Type 1} → statement M
old_cell_spec =
    tie.close
    (tie.spec
    mul-t18
    shared-slice-copy-out-t20
    mul-t21
    shared-slice-copy-out-t23
    mul-t24
    shared-slice-copy-out-t26
    shared-slice-read-t28
    mul-t29
    shared-slice-copy-out-t31
    shared-slice-read-t33
    mul-t34
    shared-slice-copy-out-t36
    mul-t37
    add-t38
    mul-t39
    shared-slice-copy-out-t41
    mul-t42
    shared-slice-copy-out-t44
    mul-t45
    shared-slice-copy-out-t47
    shared-slice-read-t49
    mul-t50
    shared-slice-copy-out-t52
    shared-slice-read-t54
    returns
    returns-2
    returns-3
    returns-4
    returns-5
    returns-6
    returns-7
    returns-8
    returns-9
    returns-10)
