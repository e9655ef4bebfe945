-- `file_read::ops_fine` meets its contract. Assumes nothing.
use Rattle.std.proofs.Common.{refl, sym, length, arith}
use Rattle.doubles.specs.Loop.{all}
use Rattle.doubles.proofs.Loops.{all_next, all_fails, all_done}
use borrow.Author.Tests.{le-leb, lt-leb}
use Rattle.file_read.proofs.Laws.{byte_in}
use Rattle.file_read.proofs.ops_fine.Goals as goal

pub loop-i-init : goal.loop-i-init
unfolding all
loop-i-init c = refl

pub byte_at-requires : goal.byte_at-requires
byte_at-requires c = byte_in c.args.place c.args.n c.loop-i.i (length c.args.file.now) (omega arith) c.requires

pub returns-then-byte_at-gt2 : goal.returns-then-byte_at-gt2
returns-then-byte_at-gt2 c = sym (all_fails _ _ c.loop-i.i (omega arith) (rw (← c.byte_at.ensures) (lt-leb _ _ c.if-byte_at-gt2.true)))

pub loop-i-preserved : goal.loop-i-preserved
loop-i-preserved c = all_next _ _ c.loop-i.invariant (rw (← c.byte_at.ensures) (le-leb _ _ c.if-byte_at-gt2.false))

pub returns : goal.returns
returns c = sym (all_done _ _ _ c.loop-i.auto.i-end c.loop-i-test.false c.loop-i.invariant)
