-- `lu_transpose::place` meets its contract. Assumes nothing.
use Rattle.std.proofs.Common.{refl, sym, subst}
use Rattle.doubles.specs.Loop.{run}
use Rattle.doubles.proofs.Loops.{next, done}
use Rattle.lu_factor_rules.specs.Transpose.{placed}
use Rattle.lu_transpose.specs.Read.{ColumnRoom}
use Rattle.lu_transpose.proofs.place.Goals as goal

pub loop-c-init : goal.loop-c-init
unfolding run
loop-c-init c = refl

pub place_column-requires : goal.place_column-requires
place_column-requires c =
    record {
      column_read = c.requires.read.column c.loop-c.c c.loop-c-test.true;
      column_room = subst (ColumnRoom _ c.loop-c.c) (sym c.loop-c.invariant) (c.requires.roomy.columns c.loop-c.c c.loop-c-test.true);
    }

pub loop-c-preserved : goal.loop-c-preserved
loop-c-preserved c = next _ _ c.loop-c.c c.loop-c.invariant c.place_column.ensures

pub returns : goal.returns
unfolding placed
returns c = done _ _ _ _ c.loop-c.auto.c-end c.loop-c-test.false c.loop-c.invariant
