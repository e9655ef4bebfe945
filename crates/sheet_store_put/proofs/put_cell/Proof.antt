-- `sheet_store_put::put_cell` meets its contract: each array takes what the definition puts there. Assumes nothing.
use mathlib.Core.Path.{◌≡◌, refl}
use mathlib.Core.Bool.{true}
use Prim.Native.Nat.{ℕ, ◌<◌}
use native.Mathlib.Omega.{arith}
use borrow.Author.Tests.{eqb-true}
use lib.Dec.{eqb}
use Rattle.sheet_rules.specs.Sheet.{Plan, plan_of}
use Rattle.sheet_rules.specs.Edit.{uses_column, uses_row}
use Rattle.sheet_rules.specs.declared.Edit.{Edit}
use Rattle.sheet_terms.proofs.Machine.{word, result}
use Rattle.sheet_store_put.proofs.Laws.{put_all}
use Rattle.sheet_rules.proofs.Local.{place_in}
use Rattle.sheet_store_put.proofs.put_cell.Statement.{statement}
use Rattle.sheet_store_put.proofs.put_cell.Tie as tie

abbrev p : tie.Start → Plan
p s = plan_of s.args.rows s.args.columns s.args.coefs.now s.args.costs.now s.args.lowers.now s.args.uppers.now s.args.lower_marks.now s.args.upper_marks.now s.args.rhs.now s.args.ops.now s.args.amounts.now s.args.mults.now

abbrev e : tie.Start → Edit
e s = s.args.e

-- a kind that writes into a column's cell, or into a row's, has its index within the sheet
module _ (s : tie.Start) where
  column : (k : ℕ) → uses_column k ≡ true → eqb (e s).kind k ≡ true → (e s).column < s.args.columns
  column k u t = s.requires.1.column_in_holds (rw (eqb-true (e s).kind k t) u)

  row : (k : ℕ) → uses_row k ≡ true → eqb (e s).kind k ≡ true → (e s).row < s.args.rows
  row k u t = s.requires.1.row_within (rw (eqb-true (e s).kind k t) u)

-- the entry, from places on the way
abbrev entry-at-slice-known3 : tie.After-slice_known-3-1 → tie.Start
entry-at-slice-known3 c = search

abbrev entry-at-put-number4 : tie.After-put_number-4 → tie.Start
entry-at-put-number4 c = let x : tie.After-slice_known-3-1 = search in entry-at-slice-known3 x

put-coef-requires : tie.Need-put_coef-requires
put-coef-requires c κs = let s : tie.Start = search in λ t. omega (arith, place_in (e s).row s.args.rows (e s).column s.args.columns (row s 6 refl t) (column s 6 refl t), s.requires.0.coefs_long)

put-number-requires : tie.Need-put_number-requires
put-number-requires c κs = let s : tie.Start = search in λ t. omega (arith, column s 2 refl t, s.requires.0.costs_long)

put-bound-requires : tie.Need-put_bound-requires
put-bound-requires c κs =
    let s : tie.Start = search in (
      λ t. (omega (arith, column s 3 refl t, s.requires.0.lowers_long), omega (arith, column s 3 refl t, s.requires.0.lower_marks_long)),
      λ t. (omega (arith, column s 8 refl t, s.requires.0.lowers_long), omega (arith, column s 8 refl t, s.requires.0.lower_marks_long)),
    )

put-bound-requires-2 : tie.Need-put_bound-requires-2
put-bound-requires-2 c κs =
    let s : tie.Start = search in (
      λ t. (omega (arith, column s 4 refl t, s.requires.0.uppers_long), omega (arith, column s 4 refl t, s.requires.0.upper_marks_long)),
      λ t. (omega (arith, column s 9 refl t, s.requires.0.uppers_long), omega (arith, column s 9 refl t, s.requires.0.upper_marks_long)),
    )

put-number-requires-2 : tie.Need-put_number-requires-2
put-number-requires-2 c κs =
    let x : tie.After-slice_known-3-1 = search in
    let s = entry-at-slice-known3 x in
    λ t. omega (arith, row s 5 refl t, s.requires.0.rhs_long)

put-number-requires-3 : tie.Need-put_number-requires-3
put-number-requires-3 c κs =
    let x : tie.After-slice_known-3-1 = search in
    let s = entry-at-slice-known3 x in
    λ t. omega (arith, column s 1 refl t, s.requires.0.amounts_long)

put-number-requires-4 : tie.Need-put_number-requires-4
put-number-requires-4 c κs =
    let x : tie.After-slice_known-3-1 = search in
    let s = entry-at-slice-known3 x in
    λ t. omega (arith, row s 7 refl t, s.requires.0.mults_long)

same_length : tie.Need-shape_of-coefs
same_length c = c.put_coef.auto.coefs

same-length-2 : tie.Need-shape_of-costs
same-length-2 c = c.put_number.auto.xs

same-length-3 : tie.Need-shape_of-lowers
same-length-3 c = let at-put-bound : tie.After-put_bound = search in at-put-bound.put_bound.auto.xs

same-length-4 : tie.Need-shape_of-uppers
same-length-4 c = let at-put-bound2 : tie.After-put_bound-2 = search in at-put-bound2.put_bound-2.auto.xs

same-length-5 : tie.Need-shape_of-lower_marks
same-length-5 c = let at-put-bound : tie.After-put_bound = search in at-put-bound.put_bound.auto.marks

same-length-6 : tie.Need-shape_of-upper_marks
same-length-6 c = let at-put-bound2 : tie.After-put_bound-2 = search in at-put-bound2.put_bound-2.auto.marks

same-length-7 : tie.Need-shape_of-rhs
same-length-7 c = let at-put-number2 : tie.After-put_number-2 = search in at-put-number2.put_number-2.auto.xs

same-length-8 : tie.Need-shape_of-amounts
same-length-8 c = let at-put-number3 : tie.After-put_number-3 = search in at-put-number3.put_number-3.auto.xs

same-length-9 : tie.Need-shape_of-mults
same-length-9 c = c.put_number-4.auto.xs

returns : tie.Need-returns
returns c =
    let at-put-number3 : tie.After-put_number-3 = search in
    let at-put-number2 : tie.After-put_number-2 = search in
    let at-put-bound2 : tie.After-put_bound-2 = search in
    let at-put-bound : tie.After-put_bound = search in
    let x : tie.After-put_number-4 = search in
    let s = entry-at-put-number4 x in
    put_all (p s) (e s) (word (e s).number) (result (e s).number c.struct_told-7-1.given.1.1.1.0.1) _ _ _ _ _ _ _ _ _
    c.put_coef.ensures
    c.put_number.ensures
    at-put-bound.put_bound.ensures.0
    at-put-bound2.put_bound-2.ensures.0
    at-put-bound.put_bound.ensures.1
    at-put-bound2.put_bound-2.ensures.1
    at-put-number2.put_number-2.ensures
    at-put-number3.put_number-3.ensures
    c.put_number-4.ensures

pub put_cell_spec : {M : Type 1} → statement M
put_cell_spec =
    tie.close
    (tie.spec
    put-coef-requires
    put-number-requires
    put-bound-requires
    put-bound-requires-2
    put-number-requires-2
    put-number-requires-3
    put-number-requires-4
    same_length
    same-length-2
    same-length-3
    same-length-4
    same-length-5
    same-length-6
    same-length-7
    same-length-8
    same-length-9
    returns)
