-- `night_run::plan_long`: every length. Assumes nothing.
use mathlib.Core.Path.{refl}
use Rattle.sheet_tests.proofs.Tells.{cells_fit}
use Rattle.night_rules.specs.Night.{plan_long}
use Rattle.night_run.proofs.plan_long.Statement.{statement}
use Rattle.night_run.proofs.plan_long.Tie as tie

mul-cells : tie.Need-overflow_mul-cells
mul-cells c = let s : tie.Start = search in cells_fit _ _ s.requires.0 s.requires.1

returns : tie.Need-returns
unfolding plan_long
returns c = refl

pub plan_long_spec : {M : Type 1} → statement M
plan_long_spec = tie.close (tie.spec mul-cells returns)
