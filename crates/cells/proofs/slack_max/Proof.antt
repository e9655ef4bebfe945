-- `cells::slack_max`: by the comparison. Assumes nothing.
use native.Mathlib.Omega.{arith}
use borrow.Author.Rules.{rules}
use Rattle.rules.specs.Plan.{slack_max}
use Rattle.cells.proofs.Slacks.{slack_max_ge}
use Rattle.cells.proofs.slack_max.Statement.{statement}
use Rattle.cells.proofs.slack_max.Tie as tie

infinity-requires : tie.Need-infinity-requires
infinity-requires c κs = search rules

returns : tie.Need-returns-in-0
unfolding slack_max
returns c = rw c.in-0.is c.infinity.ensures

returns-2 : tie.Need-returns-in-1
unfolding slack_max
returns-2 c = rw c.in-1.is

returns-3 : tie.Need-returns-in_default
returns-3 c = rw (slack_max_ge c.args.op (omega (arith, c.in_default.in_default-own.rest)))

pub slack_max_spec : {M : Type 1} → statement M
slack_max_spec = tie.close (tie.spec infinity-requires returns returns-2 returns-3)
