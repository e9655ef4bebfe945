-- `sheet_change_edit::uses_row` meets its contract. Assumes nothing.
use mathlib.Core.Path.{refl}
use Rattle.sheet_change_edit.proofs.uses_row.Statement.{statement}
use Rattle.sheet_change_edit.proofs.uses_row.Tie as tie

returns : tie.Need-returns
returns c = refl

pub uses_row_spec : {M : Type 1} → statement M
uses_row_spec =
    tie.close
    (tie.spec
    returns)
