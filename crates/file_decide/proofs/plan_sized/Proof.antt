-- `file_decide::plan_sized` meets its contract. Assumes nothing.
use mathlib.Core.Path.{◌≡◌, sym}
use borrow.Author.Tests.{leb-true}
use Rattle.doubles.proofs.Loops.{both_true}
use Rattle.sheet_tests.proofs.Tells.{cells_fit}
use Rattle.file_decide.proofs.Writing.{sized_is}
use Rattle.file_decide.proofs.plan_sized.Statement.{statement}
use Rattle.file_decide.proofs.plan_sized.Tie as tie

mul-cells : tie.Need-overflow_mul-cells
mul-cells c = let e = both_true _ _ c.if-rows-columns.true in cells_fit _ _ (leb-true _ _ e.0) (leb-true _ _ e.1)

returns : tie.Need-returns-then-rows-columns
returns c = rw (sized_is, c.if-rows-columns.true)

returns-2 : tie.Need-returns
returns-2 c = rw (sized_is, c.if-rows-columns.false)

pub plan_sized_spec : {M : Type 1} → statement M
plan_sized_spec = tie.close (tie.spec mul-cells returns returns-2)
