-- `sheet_store_apply::apply_edit` meets its contract. Assumes nothing.
use Rattle.sheet_rules.specs.Sheet.{Sheet, plan_of, kept_of, sheet_of}
use Rattle.sheet_rules.specs.Edit.{applied}
use Rattle.sheet_tests.proofs.Tells.{plan_sized_holds}
use Rattle.sheet_store_apply.proofs.apply_edit.Statement.{statement}
use Rattle.sheet_store_apply.proofs.apply_edit.Tie as tie

abbrev sheet : tie.Start → Sheet
sheet s = sheet_of (plan_of s.args.rows s.args.columns s.args.coefs.now s.args.costs.now s.args.lowers.now s.args.uppers.now s.args.lower_marks.now s.args.upper_marks.now s.args.rhs.now s.args.ops.now s.args.amounts.now s.args.mults.now) (kept_of s.args.r.now s.args.d.now s.args.c.now s.args.b.now s.args.counts.now)

move-kept-requires : tie.Need-move_kept-requires
move-kept-requires c κs = (c.requires.0, c.requires.1)

put-cell-requires : tie.Need-put_cell-requires
put-cell-requires c κs = let s : tie.Start = search in (plan_sized_holds (sheet s) s.requires.0.sized, s.requires.0.index)

same_length : tie.Need-shape_of-coefs
same_length c = c.put_cell.auto.coefs

same-length-2 : tie.Need-shape_of-costs
same-length-2 c = c.put_cell.auto.costs

same-length-3 : tie.Need-shape_of-lowers
same-length-3 c = c.put_cell.auto.lowers

same-length-4 : tie.Need-shape_of-uppers
same-length-4 c = c.put_cell.auto.uppers

same-length-5 : tie.Need-shape_of-lower_marks
same-length-5 c = c.put_cell.auto.lower_marks

same-length-6 : tie.Need-shape_of-upper_marks
same-length-6 c = c.put_cell.auto.upper_marks

same-length-7 : tie.Need-shape_of-rhs
same-length-7 c = c.put_cell.auto.rhs

same-length-8 : tie.Need-shape_of-amounts
same-length-8 c = c.put_cell.auto.amounts

same-length-9 : tie.Need-shape_of-mults
same-length-9 c = c.put_cell.auto.mults

same-length-10 : tie.Need-shape_of-r
same-length-10 c = c.move_kept.auto.r

same-length-11 : tie.Need-shape_of-d
same-length-11 c = c.move_kept.auto.d

same-length-12 : tie.Need-shape_of-c
same-length-12 c = c.move_kept.auto.c

same-length-13 : tie.Need-shape_of-b
same-length-13 c = c.move_kept.auto.b

same-length-14 : tie.Need-shape_of-counts
same-length-14 c = c.move_kept.auto.counts

returns : tie.Need-returns
unfolding applied
returns c = λ h. sheet_of (c.put_cell.ensures h) (c.move_kept.ensures h)

pub apply_edit_spec : {M : Type 1} → statement M
apply_edit_spec =
    tie.close
    (tie.spec
    move-kept-requires
    put-cell-requires
    same_length
    same-length-2
    same-length-3
    same-length-4
    same-length-5
    same-length-6
    same-length-7
    same-length-8
    same-length-9
    same-length-10
    same-length-11
    same-length-12
    same-length-13
    same-length-14
    returns)
