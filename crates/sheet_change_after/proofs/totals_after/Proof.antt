-- `sheet_change_after::totals_after` meets its contract. Assumes nothing.
use mathlib.Core.Path.{◌≡◌, ap₂, ◌∙◌}
use Prim.Native.Nat.{◌+◌, ◌*◌, ◌≤◌, ◌<◌}
use native.Mathlib.Nat.{lt_of_lt_of_le, le_trans, mul-le-mul_left, mul-le-mul_right}
use native.Mathlib.Omega.{arith}
use lib.IntN.{ℤ, nat_abs, ◌-ℤ◌}
use borrow.Author.Rules.{rules}
use borrow.Author.Tests.{ne_eqb}
use Rattle.doubles.specs.Limits.{max_rows, max_columns, max_coefficient, max_r, max_d}
use Rattle.sheet_rules.specs.Sum.{◌‼◌}
use Rattle.sheet_rules.specs.Sheet.{Sheet, plan_of, kept_of, sheet_of}
use Rattle.sheet_rules.specs.declared.Edit.{Edit}
use Rattle.sheet_rules.proofs.Local.{place_in}
use Rattle.sheet_terms.proofs.Machine.{result, seen}
use Rattle.sheet_tests.proofs.Tells.{plan_sized_holds, fine}
use Rattle.sheet_change_moves.specs.After.{broken_change, terms_change, absent_change}
use Rattle.sheet_change_moves.specs.declared.Totals.{Totals}
use Rattle.sheet_change_totals.specs.declared.Column.{Column}
use Rattle.sheet_change_totals.specs.declared.Row.{Row}
use Rattle.sheet_change_totals.specs.Parts.{column_totals, row_totals, coef_totals, with_broken, with_terms, SmallColumn, SmallRow, Whole}
use Rattle.sheet_change_totals.proofs.ByKind.{totals, column, row, column_law, amount_law, right_law, mult_law, coef_law}
use Rattle.sheet_change_totals.proofs.Lent.{totals_whole, column_small, row_small, activity_small}
use Rattle.sheet_change_after.proofs.totals_after.Statement.{statement}
use Rattle.sheet_change_after.proofs.totals_after.Tie as tie

abbrev sheet : tie.Start → Sheet
sheet s = sheet_of (plan_of s.args.rows s.args.columns s.args.coefs.now s.args.costs.now s.args.lowers.now s.args.uppers.now s.args.lower_marks.now s.args.upper_marks.now s.args.rhs.now s.args.ops.now s.args.amounts.now s.args.mults.now) (kept_of s.args.r.now s.args.d.now s.args.c.now s.args.b.now s.args.counts.now)

-- what was read
module _ (c : tie.After-row_at-y) where
  abbrev s : tie.Start
  s = c.before.before.before.before.before.before

  abbrev e : Edit
  e = s.args.e

  abbrev t : Totals
  t = c.totals_now-t.result

  abbrev x : Column
  x = c.column_at-x.result

  abbrev y : Row
  y = c.row_at-y.result

  t_is : t ≡ totals (sheet s) e s.requires.0
  t_is = c.totals_now-t.ensures

  x_is : x ≡ column (sheet s) e s.requires.0
  x_is = c.column_at-x.ensures

  y_is : y ≡ row (sheet s) e s.requires.0
  y_is = c.row_at-y.ensures

  t_whole : Whole t
  t_whole = rw t_is (totals_whole (sheet s) e s.requires.0)

  x_small : SmallColumn max_d x
  x_small = rw x_is (column_small (sheet s) e s.requires.0)

  y_small : SmallRow y
  y_small = rw y_is (row_small (sheet s) e s.requires.0)

  -- kind 6
  module _ (w : e.kind ≡ 6) where
    place : e.row * s.args.columns + e.column < s.args.rows * s.args.columns
    place = place_in e.row s.args.rows e.column s.args.columns (s.requires.0.index.row_within (rw w)) (s.requires.0.index.column_in_holds (rw w))

    few : e.row * s.args.columns + e.column < max_rows * max_columns
    few = lt_of_lt_of_le place (le_trans (mul-le-mul_left s.args.rows s.requires.0.sized.cols_fit) (mul-le-mul_right max_columns s.requires.0.sized.rows_fit))

    abbrev coef : ℤ
    coef = s.args.coefs.now ‼ (e.row * s.args.columns + e.column)

    coef_small : nat_abs coef ≤ max_coefficient
    coef_small = s.requires.0.sound.column_in_holds (rw w) e.row (s.requires.0.index.row_within (rw w))

    y_active : nat_abs y.activity ≤ max_r
    y_active = rw y_is (activity_small (sheet s) e s.requires.0)

totals-now-requires : tie.Need-totals_now-t-requires
totals-now-requires c κs = search rules

column-at-requires : tie.Need-column_at-x-requires
column-at-requires c κs = search rules

row-at-requires : tie.Need-row_at-y-requires
row-at-requires c κs = search rules

amount-totals-requires : tie.Need-amount_totals-requires
amount-totals-requires c κs =
    let m = c.before in
    let g = (s m).requires.0 in
    let w = c.in-1.is in
    (w, g.number, t_whole m, x_small m, g.sized.rows_fit, record { column_in_holds = g.index.column_in_holds (rw w); there = g.sized.coefs_fit; at = g.sound.column_in_holds (rw w) }, g.sized.rhs_fit, g.sized.ops_fit, record { there = g.sized.r_fits; at = g.sound.kept_in.r_in })

row-totals-requires : tie.Need-row_totals-requires
row-totals-requires c κs = let m = c.before in ((s m).requires.0.number, t_whole m, y_small m)

mul-coef-totals : tie.Need-overflow_mul-e
mul-coef-totals c = let a = c.before in omega (arith, few a.before a.in-6.is)

add-coef-totals : tie.Need-overflow_add-e
add-coef-totals c = let a = c.before.before in omega (arith, few a.before a.in-6.is)

mul-coef-totals-2 : tie.Need-offset_bounds-coefs-e
mul-coef-totals-2 c = let a = c.before.before in omega (arith, few a.before a.in-6.is)

shared-slice-copy-out-coef-totals : tie.Need-bounds-coefs-e
shared-slice-copy-out-coef-totals c = let a = c.before.before in omega (arith, place a.before a.in-6.is, (s a.before).requires.0.sized)

coef-totals-requires : tie.Need-coef_totals-requires
coef-totals-requires c κs =
    let a = c.before.before.before in
    let m = a.before in
    let w = a.in-6.is in
    ((s m).requires.0.number.coef_in w, t_whole m, x_small m, y_small m, y_active m w, seen (coef m w) max_coefficient (coef_small m w) tt)

mult-totals-requires : tie.Need-mult_totals-requires
mult-totals-requires c κs =
    let m = c.before in
    let g = (s m).requires.0 in
    let w = c.in-7.is in
    let z = plan_sized_holds (sheet (s m)) g.sized in
    let f = fine (sheet (s m)).plan z g.sound.arrays_in in
    (w, g.number, t_whole m, y_small m, g.sized.cols_fit, record { row_within = g.index.row_within (rw w); there = g.sized.coefs_fit; at = g.sound.row_within (rw w) }, f.lowers_small, f.uppers_small, g.sized.lower_marks_fit, g.sized.upper_marks_fit, record { there = g.sized.d_fits; at = g.sound.kept_in.d_in })

column-totals-requires : tie.Need-column_totals-requires
column-totals-requires c κs = let m = c.before in ((s m).requires.0.number, t_whole m, x_small m)

returns : tie.Need-returns-in-1
returns c =
    let m = c.before.before in
    let s = s m in
    c.amount_totals.ensures
    ∙ ap₂ (λ (t : Totals) (x : Column). with_broken (column_totals s.args.e t x) (broken_change s.args.rows s.args.columns s.args.e.column (s.args.e.number -ℤ x.amount) s.args.coefs.now s.args.rhs.now s.args.ops.now s.args.r.now)) (t_is m) (x_is m)
    ∙ amount_law (sheet s) s.args.e s.requires.0 c.in-1.is

returns-2 : tie.Need-returns-in-5
returns-2 c = let m = c.before.before in c.row_totals.ensures ∙ ap₂ (row_totals (e m)) (t_is m) (y_is m) ∙ right_law (sheet (s m)) (e m) (s m).requires.0 c.in-5.is

returns-3 : tie.Need-returns-in-6
returns-3 c =
    let a = c.before.before.before.before in
    let m = a.before in
    let w = a.in-6.is in
    c.coef_totals.ensures
    ∙ (λ h. coef_totals (t_is m h) (x_is m h) (y_is m h) ((e m).number -ℤ result (coef m w) c.coef_totals-arg-1.given h))
    ∙ coef_law (sheet (s m)) (e m) (s m).requires.0 w

returns-4 : tie.Need-returns-in-7
returns-4 c =
    let m = c.before.before in
    let s = s m in
    c.mult_totals.ensures
    ∙ ap₂ (λ (t : Totals) (y : Row). with_terms (row_totals s.args.e t y) (terms_change s.args.columns s.args.e.row (s.args.e.number -ℤ y.mult) s.args.coefs.now s.args.lowers.now s.args.uppers.now s.args.lower_marks.now s.args.upper_marks.now s.args.d.now) (absent_change s.args.columns s.args.e.row (s.args.e.number -ℤ y.mult) s.args.coefs.now s.args.lower_marks.now s.args.upper_marks.now s.args.d.now)) (t_is m) (y_is m)
    ∙ mult_law (sheet s) s.args.e s.requires.0 c.in-7.is

returns-5 : tie.Need-returns-in_default
returns-5 c =
    let m = c.before.before in
    let k = (e m).kind in
    let r = c.in_default.in_default-own.rest in
    c.column_totals.ensures ∙ ap₂ (column_totals (e m)) (t_is m) (x_is m) ∙ column_law (sheet (s m)) (e m) (s m).requires.0 (ne_eqb k 5 r.0.0.1) (ne_eqb k 6 r.0.1) (ne_eqb k 7 r.1) (ne_eqb k 1 r.0.0.0.1)

pub totals_after_spec : {M : Type 1} → statement M
totals_after_spec =
    tie.close
    (tie.spec
    totals-now-requires
    column-at-requires
    row-at-requires
    amount-totals-requires
    row-totals-requires
    mul-coef-totals
    add-coef-totals
    mul-coef-totals-2
    shared-slice-copy-out-coef-totals
    coef-totals-requires
    mult-totals-requires
    column-totals-requires
    returns
    returns-2
    returns-3
    returns-4
    returns-5)
