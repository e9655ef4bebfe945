-- `step_numbers::new_val` meets its contract: the entering row, or another. Assumes nothing.
use borrow.Author.Tests.{eq-eqb, ne_eqb}
use Rattle.step_numbers.specs.New.{val_by}
use Rattle.step_numbers.proofs.new_val.Statement.{statement}
use Rattle.step_numbers.proofs.new_val.Tie as tie

returns : tie.Need-returns-then-r-row
unfolding val_by
returns c = rw (eq-eqb _ _ c.if-r-row.true, val_by)

returns-2 : tie.Need-returns-else-r-row
unfolding val_by
returns-2 c = rw (ne_eqb _ _ c.if-r-row.false, val_by)

pub new_val_spec : {M : Type 1} → statement M
new_val_spec = tie.close (tie.spec returns returns-2)
