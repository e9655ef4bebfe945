-- `doubles::is_infinite`: by cases, with the infinity that the calls give. Assumes nothing.
use Rattle.doubles.proofs.Floats.{is_inf, is_minus_inf}
use borrow.Author.Rules.{rules}
use Rattle.doubles.proofs.is_infinite.Statement.{statement}
use Rattle.doubles.proofs.is_infinite.Tie as tie

infinity-requires : tie.Need-infinity-requires
infinity-requires c κs = search rules

infinity-requires-2 : tie.Need-infinity-requires-else-x-infinity
infinity-requires-2 c κs = search rules

returns : tie.Need-returns-then-x-infinity
returns c = is_inf _ (rw c.before.infinity.ensures at c.if-x-infinity.true)

returns-2 : tie.Need-returns-else-x-infinity
returns-2 c = rw c.infinity-else-x-infinity.ensures (is_minus_inf _ (rw c.before.before.infinity.ensures at c.before.if-x-infinity.false))

pub is_infinite_spec : {M : Type 1} → statement M
is_infinite_spec = tie.close (tie.spec infinity-requires infinity-requires-2 returns returns-2)
