-- `plan::zero_holds` meets its contract: by the comparison. Assumes nothing.
use Rattle.rules.specs.Refusals.{zero_holds}
use Rattle.plan.proofs.Laws.{zero_holds_else}
use Rattle.plan.proofs.zero_holds.Statement.{statement}
use Rattle.plan.proofs.zero_holds.Tie as tie

returns : tie.Need-returns-in-0
unfolding zero_holds
returns c = rw c.in-0.is

returns-2 : tie.Need-returns-in-1
unfolding zero_holds
returns-2 c = rw c.in-1.is

returns-3 : tie.Need-returns-in_default
returns-3 c = zero_holds_else _ _ c.in_default.in_default-own.rest.0.1 c.in_default.in_default-own.rest.1

pub zero_holds_spec : {M : Type 1} → statement M
zero_holds_spec = tie.close (tie.spec returns returns-2 returns-3)
