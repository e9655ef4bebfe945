-- `lu_gate::starts_ok` meets its contract. Assumes nothing.
use Rattle.std.proofs.Common.{refl, sym}
use borrow.Author.Tests.{ne_eqb, eq-eqb, lt-leb, le-leb}
use Rattle.doubles.specs.Loop.{all}
use Rattle.doubles.proofs.Loops.{all_next, all_fails, all_done}
use Rattle.lu_gate.specs.Gate.{ok_starts}
use Rattle.lu_gate.proofs.starts_ok.Goals as goal

pub returns-then-starts-ne0 : goal.returns-then-starts-ne0
unfolding ok_starts
returns-then-starts-ne0 c = rw (ne_eqb _ _ c.if-starts-ne0.true) refl

pub returns-then-starts-size : goal.returns-then-starts-size
unfolding ok_starts
returns-then-starts-size c = rw (eq-eqb _ _ c.if-starts-ne0.false, ne_eqb _ _ c.if-starts-size.true) refl

pub loop-j-init : goal.loop-j-init
unfolding all
loop-j-init c = refl

pub returns-then-starts-j : goal.returns-then-starts-j
unfolding ok_starts
returns-then-starts-j c =
    rw (eq-eqb _ _ c.if-starts-ne0.false, eq-eqb _ _ c.if-starts-size.false) (sym (all_fails _ _ c.loop-j.j c.loop-j-test.true (lt-leb _ _ c.if-starts-j.true)))

pub loop-j-preserved : goal.loop-j-preserved
loop-j-preserved c = all_next _ c.loop-j.j c.loop-j.invariant (le-leb _ _ c.if-starts-j.false)

pub returns : goal.returns
unfolding ok_starts
returns c =
    rw (eq-eqb _ _ c.if-starts-ne0.false, eq-eqb _ _ c.if-starts-size.false) (sym (all_done _ _ _ c.loop-j.auto.j-end c.loop-j-test.false c.loop-j.invariant))
