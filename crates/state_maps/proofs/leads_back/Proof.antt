-- `state_maps::leads_back`: the cell is read only of a variable. Assumes nothing.
use borrow.Author.Rules.{rules}
use borrow.Author.Tests.{lt-ltb, le-ltb}
use Rattle.state_maps.specs.Maps.{leads_back}
use Rattle.state_maps.proofs.leads_back.Statement.{statement}
use Rattle.state_maps.proofs.leads_back.Tie as tie

mul-result : tie.Need-offset_bounds-states-v
mul-result c = search rules

shared-slice-read-result : tie.Need-bounds-states-v
shared-slice-read-result c = search rules

returns : tie.Need-returns-then-v-vars
unfolding leads_back
returns c = let t : tie.Then-v-vars = search in rw (lt-ltb _ _ t.if-v-vars.true)

returns-2 : tie.Need-returns
unfolding leads_back
returns-2 c = rw (le-ltb _ _ c.if-v-vars.false)

pub leads_back_spec : {M : Type 1} → statement M
leads_back_spec = tie.close (tie.spec mul-result shared-slice-read-result returns returns-2)
