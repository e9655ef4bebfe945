-- `basis_columns::count_row` meets its contract. Assumes nothing.
use Rattle.std.proofs.Common.{refl}
use Rattle.doubles.specs.Loop.{run}
use Rattle.doubles.proofs.Loops.{next, done}
use Rattle.basis_columns.specs.Columns.{counted_in}
use Rattle.basis_columns.proofs.count_row.Goals as goal

pub loop-c-init : goal.loop-c-init
unfolding run
loop-c-init c = refl

pub loop-c-preserved : goal.loop-c-preserved
loop-c-preserved c = next _ _ c.loop-c.c-index c.loop-c.invariant refl

pub returns : goal.returns
unfolding counted_in
returns c = done _ _ _ _ c.loop-c.auto.c-index-end c.loop-c-test.false c.loop-c.invariant
