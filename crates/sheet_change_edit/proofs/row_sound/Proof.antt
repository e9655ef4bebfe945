-- `sheet_change_edit::row_sound` meets its contract. Assumes nothing.
use mathlib.Core.Path.{sym, ◌∙◌}
use Rattle.sheet_change_edit.proofs.row_sound.Statement.{statement}
use Rattle.sheet_change_edit.proofs.row_sound.Tie as tie

uses-row-requires : tie.Need-uses_row-requires
uses-row-requires c κs = tt

row-fine-requires : tie.Need-row_fine-requires
row-fine-requires c κs = let s = c.before.before.before.before.before in (s.requires.0, s.requires.1.row_within (sym c.uses_row.ensures ∙ c.if-uses_row.true))

returns : tie.Need-returns-then-uses_row
returns c = rw (sym c.uses_row.ensures ∙ c.if-uses_row.true) c.row_fine.ensures

returns-2 : tie.Need-returns
returns-2 c = rw (sym c.uses_row.ensures ∙ c.if-uses_row.false)

pub row_sound_spec : {M : Type 1} → statement M
row_sound_spec =
    tie.close
    (tie.spec
    uses-row-requires
    row-fine-requires
    returns
    returns-2)
