-- `file_read::uncrossed` meets its contract. Assumes nothing.
use Rattle.std.proofs.Common.{refl, sym, ap, ◌∙◌, length, arith}
use Rattle.doubles.specs.Loop.{all}
use Rattle.doubles.proofs.Loops.{all_next, all_fails, all_done}
use mathlib.Core.Bool.{not}
use Rattle.file_read.proofs.Laws.{byte_in, number_in}
use Rattle.file_read.proofs.uncrossed.Goals as goal

pub loop-j-init : goal.loop-j-init
unfolding all
loop-j-init c = refl

pub crossed_at-requires : goal.crossed_at-requires
crossed_at-requires c = (
  number_in c.args.lowers c.args.n c.loop-j.j (length c.args.file.now) (omega arith) c.requires.0,
  number_in c.args.uppers c.args.n c.loop-j.j (length c.args.file.now) (omega arith) c.requires.1,
  byte_in c.args.lower_marks c.args.n c.loop-j.j (length c.args.file.now) (omega arith) c.requires.2,
  byte_in c.args.upper_marks c.args.n c.loop-j.j (length c.args.file.now) (omega arith) c.requires.3,
)

pub returns-then-crossed_at : goal.returns-then-crossed_at
returns-then-crossed_at c = sym (all_fails _ _ c.loop-j.j (omega arith) (ap not (sym c.crossed_at.ensures ∙ c.if-crossed_at.true)))

pub loop-j-preserved : goal.loop-j-preserved
loop-j-preserved c = all_next _ _ c.loop-j.invariant (ap not (sym c.crossed_at.ensures ∙ c.if-crossed_at.false))

pub returns : goal.returns
returns c = sym (all_done _ _ _ c.loop-j.auto.j-end c.loop-j-test.false c.loop-j.invariant)
