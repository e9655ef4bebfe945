-- `sheet_change_edit::column_sound` meets its contract. Assumes nothing.
use mathlib.Core.Path.{sym, ◌∙◌}
use Rattle.sheet_change_edit.proofs.column_sound.Statement.{statement}
use Rattle.sheet_change_edit.proofs.column_sound.Tie as tie

uses-column-requires : tie.Need-uses_column-requires
uses-column-requires c κs = tt

column-fine-requires : tie.Need-column_fine-requires
column-fine-requires c κs = let s = c.before.before.before.before.before in (s.requires.0, s.requires.1.column_in_holds (sym c.uses_column.ensures ∙ c.if-uses_column.true))

returns : tie.Need-returns-then-uses_column
returns c = rw (sym c.uses_column.ensures ∙ c.if-uses_column.true) c.column_fine.ensures

returns-2 : tie.Need-returns
returns-2 c = rw (sym c.uses_column.ensures ∙ c.if-uses_column.false)

pub column_sound_spec : {M : Type 1} → statement M
column_sound_spec =
    tie.close
    (tie.spec
    uses-column-requires
    column-fine-requires
    returns
    returns-2)
