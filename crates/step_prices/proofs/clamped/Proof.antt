-- `step_prices::clamped`: by its test. Assumes nothing.
use Rattle.rules.specs.DualRatio.{clamped}
use Rattle.step_prices.proofs.clamped.Statement.{statement}
use Rattle.step_prices.proofs.clamped.Tie as tie

returns : tie.Need-returns-then-at_min-price
unfolding clamped
returns c = rw (c.if-at_min-price.true, clamped)

returns-2 : tie.Need-returns
unfolding clamped
returns-2 c = rw (c.if-at_min-price.false, clamped)

pub clamped_spec : {M : Type 1} → statement M
clamped_spec = tie.close (tie.spec returns returns-2)
