-- `start_values::start_objective` meets its contract. Assumes nothing.
use mathlib.Core.Path.{refl}
use Rattle.doubles.specs.Loop.{run}
use Rattle.doubles.proofs.Loops.{next, done}
use Rattle.rules.specs.Start.{start_objective}
use Rattle.start_values.proofs.start_objective.Goals as goal

pub loop-j-init : goal.loop-j-init
unfolding run
loop-j-init c = refl

pub loop-j-preserved : goal.loop-j-preserved
loop-j-preserved c = next _ _ c.loop-j.j c.loop-j.invariant refl

pub returns : goal.returns
unfolding start_objective
returns c = done _ _ _ _ c.loop-j.auto.j-end c.loop-j-test.false c.loop-j.invariant
