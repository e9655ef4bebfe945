-- `start_norms::add_squares` meets its contract. Assumes nothing.
use mathlib.Core.Path.{refl}
use Rattle.doubles.specs.Loop.{run}
use Rattle.doubles.proofs.Loops.{next, done}
use Rattle.start_norms.specs.Squares.{add_squares}
use Rattle.start_norms.proofs.add_squares.Goals as goal

pub loop-k-init : goal.loop-k-init
unfolding run
loop-k-init c = refl

pub loop-k-preserved : goal.loop-k-preserved
loop-k-preserved c = next _ _ c.loop-k.k c.loop-k.invariant refl

pub returns : goal.returns
unfolding add_squares
returns c = done _ _ _ _ c.loop-k.auto.k-end c.loop-k-test.false c.loop-k.invariant
