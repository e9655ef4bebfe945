-- `doubles::is_finite`: by cases, with the infinity that the calls give. Assumes nothing.
use Rattle.doubles.proofs.Floats.{below_infinity, not_above}
use borrow.Author.Rules.{rules}
use Rattle.doubles.proofs.is_finite.Statement.{statement}
use Rattle.doubles.proofs.is_finite.Tie as tie

infinity-requires : tie.Need-infinity-requires
infinity-requires c κs = search rules

infinity-requires-2 : tie.Need-infinity-requires-then-infinity-x
infinity-requires-2 c κs = search rules

returns : tie.Need-returns-then-infinity-x
returns c = rw c.infinity-then-infinity-x.ensures (below_infinity _ (rw c.before.before.infinity.ensures at c.before.if-infinity-x.true))

returns-2 : tie.Need-returns-else-infinity-x
returns-2 c = not_above _ (rw c.before.infinity.ensures at c.if-infinity-x.false)

pub is_finite_spec : {M : Type 1} → statement M
is_finite_spec = tie.close (tie.spec infinity-requires infinity-requires-2 returns returns-2)
