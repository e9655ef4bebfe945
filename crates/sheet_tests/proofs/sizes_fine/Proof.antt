-- `sheet_tests::sizes_fine` meets its contract. Assumes nothing.
use borrow.Author.Tests.{leb-true}
use Rattle.doubles.proofs.Loops.{both_true}
use Rattle.sheet_rules.specs.Opening.{sizes_fine}
use Rattle.sheet_tests.proofs.Tells.{cells_fit}
use Rattle.sheet_tests.proofs.sizes_fine.Statement.{statement}
use Rattle.sheet_tests.proofs.sizes_fine.Tie as tie

mul-cells : tie.Need-overflow_mul-cells
mul-cells c = let e = both_true _ _ c.if-rows-columns.true in cells_fit _ _ (leb-true _ _ e.0) (leb-true _ _ e.1)

returns : tie.Need-returns-then-rows-columns
unfolding sizes_fine
returns c = rw c.if-rows-columns.true

returns-2 : tie.Need-returns
unfolding sizes_fine
returns-2 c = rw c.if-rows-columns.false

pub sizes_fine_spec : {M : Type 1} → statement M
sizes_fine_spec = tie.close (tie.spec mul-cells returns returns-2)
