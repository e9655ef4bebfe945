-- `lu_gate::rows_ok` meets its contract. Assumes nothing.
use Rattle.std.proofs.Common.{refl, sym}
use Rattle.doubles.specs.Loop.{all}
use Rattle.doubles.proofs.Loops.{all_next, all_fails, all_done}
use Rattle.lu_gate.specs.Gate.{ok_rows}
use Rattle.lu_gate.proofs.rows_ok.Goals as goal

pub loop-col-init : goal.loop-col-init
unfolding all
loop-col-init c = refl

pub returns-then-not-column_ok : goal.returns-then-not-column_ok
unfolding ok_rows
returns-then-not-column_ok c = sym (all_fails _ _ c.loop-col.col c.loop-col-test.true (cc (c.column_ok.ensures, c.if-not-column_ok.true)))

pub loop-col-preserved : goal.loop-col-preserved
loop-col-preserved c = all_next _ c.loop-col.col c.loop-col.invariant (cc (c.column_ok.ensures, c.if-not-column_ok.false))

pub returns : goal.returns
unfolding ok_rows
returns c = sym (all_done _ _ _ c.loop-col.auto.col-end c.loop-col-test.false c.loop-col.invariant)
