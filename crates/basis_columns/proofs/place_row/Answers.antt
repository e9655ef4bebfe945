-- `basis_columns::place_row` meets its contract. Assumes nothing.
use Rattle.std.proofs.Common.{refl}
use Rattle.doubles.specs.Loop.{run}
use Rattle.doubles.proofs.Loops.{next, done}
use Rattle.basis_columns.specs.Columns.{placed_in}
use Rattle.basis_columns.proofs.place_row.Goals as goal

pub loop-k-init : goal.loop-k-init
unfolding run
loop-k-init c = refl

pub loop-k-preserved : goal.loop-k-preserved
loop-k-preserved c = next _ _ c.loop-k.k c.loop-k.invariant refl

pub returns : goal.returns
unfolding placed_in
returns c = done _ _ _ _ c.loop-k.auto.k-end c.loop-k-test.false c.loop-k.invariant
