-- `sheet_change_edit::index_fine` meets its contract. Assumes nothing.
use Rattle.sheet_rules.specs.Edit.{index_fine}
use Rattle.sheet_change_edit.proofs.index_fine.Statement.{statement}
use Rattle.sheet_change_edit.proofs.index_fine.Tie as tie

uses-column-requires : tie.Need-uses_column-requires
uses-column-requires c κs = tt

uses-row-requires : tie.Need-uses_row-requires
uses-row-requires c κs = tt

returns : tie.Need-returns
unfolding index_fine
returns c = rw (c.uses_column.ensures, c.uses_row.ensures)

pub index_fine_spec : {M : Type 1} → statement M
index_fine_spec =
    tie.close
    (tie.spec
    uses-column-requires
    uses-row-requires
    returns)
