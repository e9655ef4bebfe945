-- `plan::plan_long` meets its contract. Assumes nothing.
use native.Mathlib.Numerals.{add-one}
use Rattle.rules.specs.Refusals.{plan_long}
use Rattle.plan.proofs.plan_long.Statement.{statement}
use Rattle.plan.proofs.plan_long.Tie as tie

returns : tie.Need-returns
unfolding plan_long
returns c = rw (add-one c.args.rows)

pub plan_long_spec : {M : Type 1} → statement M
plan_long_spec = tie.close (tie.spec returns)
