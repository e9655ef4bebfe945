-- `step_numbers::new_price` meets its contract: the entering place, or another. Assumes nothing.
use borrow.Author.Tests.{eq-eqb, ne_eqb}
use Rattle.step_numbers.specs.New.{price_by}
use Rattle.step_numbers.proofs.new_price.Statement.{statement}
use Rattle.step_numbers.proofs.new_price.Tie as tie

returns : tie.Need-returns-then-j-col
unfolding price_by
returns c = rw (eq-eqb _ _ c.if-j-col.true, price_by)

returns-2 : tie.Need-returns-else-j-col
unfolding price_by
returns-2 c = rw (ne_eqb _ _ c.if-j-col.false, price_by)

pub new_price_spec : {M : Type 1} → statement M
new_price_spec = tie.close (tie.spec returns returns-2)
