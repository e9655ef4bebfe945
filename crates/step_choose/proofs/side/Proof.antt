-- `step_choose::side`: by its test. Assumes nothing.
use Rattle.rules.specs.Plan.{var_min, var_max}
use borrow.Author.Rules.{rules}
use Rattle.step_choose.proofs.side.Statement.{statement}
use Rattle.step_choose.proofs.side.Tie as tie

var-max-requires : tie.Need-var_max-requires
var-max-requires c κs = search rules

returns : tie.Need-returns-then-max
unfolding var_max
returns c = rw c.if-max.true c.var_max.ensures

var-min-requires : tie.Need-var_min-requires
var-min-requires c κs = search rules

returns-2 : tie.Need-returns
unfolding var_min
returns-2 c = rw c.if-max.false c.var_min.ensures

pub side_spec : {M : Type 1} → statement M
side_spec = tie.close (tie.spec var-max-requires returns var-min-requires returns-2)
