-- `step_leaving::best_row` meets its contract. Assumes nothing.
use lib.Ieee.{neg}
use Rattle.doubles.specs.Loop.{run}
use Rattle.doubles.proofs.Loops.{next, done}
use Rattle.rules.specs.Plan.{var_min, var_max}
use Rattle.rules.specs.DualRow.{best_row}
use Rattle.step_leaving.proofs.Answers.{turn}
use Rattle.step_leaving.proofs.best_row.Goals as goal

pub loop-r-init : goal.loop-r-init
unfolding run neg
loop-r-init c = rw c.infinity.ensures

pub var_min-lower-requires : goal.var_min-lower-requires
var_min-lower-requires c = (c.requires.sides.lower, c.requires.row _ c.loop-r-test.true)

pub var_max-upper-requires : goal.var_max-upper-requires
var_max-upper-requires c = (c.requires.sides.upper, c.requires.row _ c.loop-r-test.true)

pub loop-r-preserved : goal.loop-r-preserved
unfolding var_min var_max
loop-r-preserved c =
    next _ _ c.loop-r.r c.loop-r.invariant
    (turn _ _ c.loop-r.r _ c.var_min-lower.ensures c.var_max-upper.ensures c.better-best.ensures)

pub returns : goal.returns
unfolding best_row
returns c = done _ _ _ _ c.loop-r.auto.r-end c.loop-r-test.false c.loop-r.invariant
