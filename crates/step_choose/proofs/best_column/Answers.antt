-- `step_choose::best_column` meets its contract. Assumes nothing.
use lib.Ieee.{neg}
use Rattle.doubles.specs.Loop.{run}
use Rattle.doubles.proofs.Loops.{next, done}
use Rattle.rules.specs.Choose.{better_turn, best_column}
use Rattle.step_choose.specs.Parts.{better_of}
use Rattle.step_choose.proofs.best_column.Goals as goal

pub loop-c-init : goal.loop-c-init
unfolding run neg
loop-c-init c = rw c.infinity.ensures

pub loop-c-preserved : goal.loop-c-preserved
unfolding better_turn better_of
loop-c-preserved c = next _ _ c.loop-c.c c.loop-c.invariant c.better-best.ensures

pub returns : goal.returns
unfolding best_column
returns c = done _ _ _ _ c.loop-c.auto.c-end c.loop-c-test.false c.loop-c.invariant
