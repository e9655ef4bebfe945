-- `whole_propose::lent_fine`: the tests, in their order. Assumes nothing.
use mathlib.Core.Path.{refl}
use Rattle.whole_propose.specs.Propose.{lent_fine}
use Rattle.whole_propose.proofs.lent_fine.Statement.{statement}
use Rattle.whole_propose.proofs.lent_fine.Tie as tie

returns : tie.Need-returns
unfolding lent_fine
returns c = refl

pub lent_fine_spec : {M : Type 1} → statement M
lent_fine_spec = tie.close (tie.spec returns)
