-- `cells::var_cell`: by cases. Assumes nothing.
use Rattle.rules.specs.Plan.{var_cell}
use borrow.Author.Rules.{rules}
use Rattle.cells.proofs.var_cell.Statement.{statement}
use Rattle.cells.proofs.var_cell.Tie as tie

enum-known-state : tie.Need-enum_known-state
enum-known-state c = search rules

enum-known-state-2 : tie.Need-enum_known-state-in-Basic-1
enum-known-state-2 c = search rules

add-result : tie.Need-overflow_add-result
unfolding var_cell
add-result c = let h = rw c.in-Basic.is at c.requires in record { fits = h }

returns : tie.Need-returns-in-NonBasic
unfolding var_cell
returns c = rw c.in-NonBasic.is

returns-2 : tie.Need-returns-in-Basic
unfolding var_cell
returns-2 c = rw c.in-Basic.is

pub var_cell_spec : {M : Type 1} → statement M
var_cell_spec =
    tie.close (tie.spec enum-known-state enum-known-state-2 add-result returns returns-2)
