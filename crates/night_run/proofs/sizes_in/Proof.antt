-- `night_run::sizes_in`: both tests. Assumes nothing.
use mathlib.Core.Path.{refl}
use Rattle.night_rules.specs.Night.{sizes_in}
use Rattle.night_run.proofs.sizes_in.Statement.{statement}
use Rattle.night_run.proofs.sizes_in.Tie as tie

returns : tie.Need-returns
unfolding sizes_in
returns c = refl

pub sizes_in_spec : {M : Type 1} → statement M
sizes_in_spec = tie.close (tie.spec returns)
