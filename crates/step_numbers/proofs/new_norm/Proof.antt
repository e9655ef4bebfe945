-- `step_numbers::new_norm` meets its contract: the entering place, or another. Assumes nothing.
use borrow.Author.Tests.{eq-eqb, ne_eqb}
use Rattle.step_numbers.specs.New.{norm_by}
use Rattle.step_numbers.proofs.new_norm.Statement.{statement}
use Rattle.step_numbers.proofs.new_norm.Tie as tie

returns : tie.Need-returns-then-j-col
unfolding norm_by
returns c = rw (eq-eqb _ _ c.if-j-col.true, norm_by)

returns-2 : tie.Need-returns-else-j-col
unfolding norm_by
returns-2 c = rw (ne_eqb _ _ c.if-j-col.false, norm_by)

pub new_norm_spec : {M : Type 1} → statement M
new_norm_spec = tie.close (tie.spec returns returns-2)
