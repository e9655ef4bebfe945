-- `cells::var_min`: by its test; a kept row's comparison is there. Assumes nothing.
use native.Mathlib.Omega.{arith}
use borrow.Author.Tests.{lt-ltb, le-ltb}
use Rattle.rules.specs.Plan.{var_min}
use borrow.Author.Rules.{rules}
use Rattle.cells.proofs.var_min.Statement.{statement}
use Rattle.cells.proofs.var_min.Tie as tie

mul-result : tie.Need-offset_bounds-lowers-v
mul-result c = search rules

shared-slice-read-result : tie.Need-bounds-lowers-v
shared-slice-read-result c = search rules

returns : tie.Need-returns-then-v-n
unfolding var_min
returns c = rw (lt-ltb _ _ c.if-v-n.true, var_min)

mul-row : tie.Need-offset_bounds-kept-v
mul-row c = search rules

shared-slice-read-row : tie.Need-bounds-kept-v
shared-slice-read-row c = search rules

shared-slice-read-slack-min : tie.Need-bounds-ops-row
shared-slice-read-slack-min c =
    let s : tie.Start = search in
    s.requires.0.row_inside _ (omega (arith, s.requires.1, c.if-v-n.false))

slack-min-requires : tie.Need-slack_min-requires
slack-min-requires c κs = search rules

returns-2 : tie.Need-returns
unfolding var_min
returns-2 c = rw (le-ltb _ _ c.if-v-n.false, var_min) c.slack_min.ensures

pub var_min_spec : {M : Type 1} → statement M
var_min_spec =
    tie.close
    (tie.spec
    mul-result
    shared-slice-read-result
    returns
    mul-row
    shared-slice-read-row
    shared-slice-read-slack-min
    slack-min-requires
    returns-2)
