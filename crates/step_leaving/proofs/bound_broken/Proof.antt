-- `step_leaving::bound_broken`: by its test. Assumes nothing.
use Rattle.rules.specs.DualRow.{bound_broken}
use Rattle.step_leaving.proofs.bound_broken.Statement.{statement}
use Rattle.step_leaving.proofs.bound_broken.Tie as tie

returns : tie.Need-returns-then-value-lower
unfolding bound_broken
returns c = rw (c.if-value-lower.true, bound_broken)

returns-2 : tie.Need-returns
unfolding bound_broken
returns-2 c = rw (c.if-value-lower.false, bound_broken)

pub bound_broken_spec : {M : Type 1} → statement M
bound_broken_spec = tie.close (tie.spec returns returns-2)
