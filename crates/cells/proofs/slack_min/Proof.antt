-- `cells::slack_min`: by the comparison. Assumes nothing.
use native.Mathlib.Omega.{arith}
use borrow.Author.Rules.{rules}
use lib.Ieee.{neg}
use Rattle.rules.specs.Plan.{slack_min}
use Rattle.cells.proofs.Slacks.{slack_min_ge}
use Rattle.cells.proofs.slack_min.Statement.{statement}
use Rattle.cells.proofs.slack_min.Tie as tie

infinity-requires : tie.Need-infinity-requires
infinity-requires c κs = search rules

returns : tie.Need-returns-in-0
unfolding slack_min
returns c = rw c.in-0.is

returns-2 : tie.Need-returns-in-1
unfolding slack_min
returns-2 c = rw c.in-1.is

returns-3 : tie.Need-returns-in_default
unfolding neg
returns-3 c = rw (c.infinity.ensures, slack_min_ge c.args.op (omega (arith, c.in_default.in_default-own.rest)))

pub slack_min_spec : {M : Type 1} → statement M
slack_min_spec = tie.close (tie.spec infinity-requires returns returns-2 returns-3)
