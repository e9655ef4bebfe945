-- `reprice_numbers::cost_of`: by its test. Assumes nothing.
use borrow.Author.Tests.{lt-ltb, le-ltb}
use Rattle.reprice_rules.specs.Reprice.{cost_of}
use borrow.Author.Rules.{rules}
use Rattle.reprice_numbers.proofs.cost_of.Statement.{statement}
use Rattle.reprice_numbers.proofs.cost_of.Tie as tie

mul-result : tie.Need-offset_bounds-costs-v
mul-result c = search rules

shared-slice-read-result : tie.Need-bounds-costs-v
shared-slice-read-result c = search rules

returns : tie.Need-returns-then-v-n
unfolding cost_of
returns c = let t : tie.Then-v-n = search in rw (lt-ltb _ _ t.if-v-n.true, cost_of)

returns-2 : tie.Need-returns
unfolding cost_of
returns-2 c = let t : tie.Else-v-n = search in rw (le-ltb _ _ t.if-v-n.false, cost_of)

pub cost_of_spec : {M : Type 1} → statement M
cost_of_spec = tie.close (tie.spec mul-result shared-slice-read-result returns returns-2)
