-- `sheet_change_edit::uses_column` meets its contract. Assumes nothing.
use mathlib.Core.Path.{refl}
use Rattle.sheet_change_edit.proofs.uses_column.Statement.{statement}
use Rattle.sheet_change_edit.proofs.uses_column.Tie as tie

returns : tie.Need-returns
returns c = refl

pub uses_column_spec : {M : Type 1} → statement M
uses_column_spec =
    tie.close
    (tie.spec
    returns)
