-- `cells::var_max`: by its test; a kept row's comparison is there. Assumes nothing.
use native.Mathlib.Omega.{arith}
use borrow.Author.Tests.{lt-ltb, le-ltb}
use Rattle.rules.specs.Plan.{var_max}
use borrow.Author.Rules.{rules}
use Rattle.cells.proofs.var_max.Statement.{statement}
use Rattle.cells.proofs.var_max.Tie as tie

mul-result : tie.Need-offset_bounds-uppers-v
mul-result c = search rules

shared-slice-read-result : tie.Need-bounds-uppers-v
shared-slice-read-result c = search rules

returns : tie.Need-returns-then-v-n
unfolding var_max
returns c = rw (lt-ltb _ _ c.if-v-n.true, var_max)

mul-row : tie.Need-offset_bounds-kept-v
mul-row c = search rules

shared-slice-read-row : tie.Need-bounds-kept-v
shared-slice-read-row c = search rules

shared-slice-read-slack-max : tie.Need-bounds-ops-row
shared-slice-read-slack-max c =
    let s : tie.Start = search in
    s.requires.0.row_inside _ (omega (arith, s.requires.1, c.if-v-n.false))

slack-max-requires : tie.Need-slack_max-requires
slack-max-requires c κs = search rules

returns-2 : tie.Need-returns
unfolding var_max
returns-2 c = rw (le-ltb _ _ c.if-v-n.false, var_max) c.slack_max.ensures

pub var_max_spec : {M : Type 1} → statement M
var_max_spec =
    tie.close
    (tie.spec
    mul-result
    shared-slice-read-result
    returns
    mul-row
    shared-slice-read-row
    shared-slice-read-slack-max
    slack-max-requires
    returns-2)
