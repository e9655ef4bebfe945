-- `sheet_change_edit::sound` meets its contract. Assumes nothing.
use Rattle.sheet_rules.specs.Sheet.{Sheet, plan_of, kept_of, sheet_of}
use Rattle.sheet_rules.specs.Edit.{sound_at}
use Rattle.sheet_rules.specs.Verdict.{kept_fine}
use Rattle.sheet_tests.proofs.Tells.{plan_sized_holds, kept_sized}
use Rattle.sheet_change_edit.proofs.sound.Statement.{statement}
use Rattle.sheet_change_edit.proofs.sound.Tie as tie

abbrev sheet : tie.Start → Sheet
sheet s = sheet_of (plan_of s.args.rows s.args.columns s.args.coefs.now s.args.costs.now s.args.lowers.now s.args.uppers.now s.args.lower_marks.now s.args.upper_marks.now s.args.rhs.now s.args.ops.now s.args.amounts.now s.args.mults.now) (kept_of s.args.r.now s.args.d.now s.args.c.now s.args.b.now s.args.counts.now)

arrays-fine-requires : tie.Need-arrays_fine-requires
arrays-fine-requires c κs = let s : tie.Start = search in plan_sized_holds (sheet s) s.requires.0

column-sound-requires : tie.Need-column_sound-requires
column-sound-requires c κs = let s : tie.Start = search in (plan_sized_holds (sheet s) s.requires.0, s.requires.1)

row-sound-requires : tie.Need-row_sound-requires
row-sound-requires c κs = let s : tie.Start = search in (plan_sized_holds (sheet s) s.requires.0, s.requires.1)

kept-fine-requires : tie.Need-kept_fine-requires
kept-fine-requires c κs = let s : tie.Start = search in kept_sized (sheet s) s.requires.0

returns : tie.Need-returns
unfolding sound_at kept_fine
returns c = let at-arrays-fine : tie.After-arrays_fine = search in rw (at-arrays-fine.arrays_fine.ensures, c.column_sound.ensures, c.row_sound.ensures, c.kept_fine.ensures)

pub sound_spec : {M : Type 1} → statement M
sound_spec =
    tie.close
    (tie.spec
    arrays-fine-requires
    column-sound-requires
    row-sound-requires
    kept-fine-requires
    returns)
