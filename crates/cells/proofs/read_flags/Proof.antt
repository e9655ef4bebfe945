-- `cells::read_flags`: the definition's own tests. Assumes nothing.
use mathlib.Core.Path.{refl}
use Rattle.rules.specs.Plan.{flags_of}
use Rattle.cells.proofs.read_flags.Statement.{statement}
use Rattle.cells.proofs.read_flags.Tie as tie

returns : tie.Need-returns
unfolding flags_of
returns c = refl

pub read_flags_spec : {M : Type 1} → statement M
read_flags_spec = tie.close (tie.spec returns)
