-- `check_final::larger`: by its test. Assumes nothing.
use Rattle.rules.specs.FinalCheck.{larger}
use Rattle.check_final.proofs.larger.Goals as goal

pub returns-then-x-y : goal.returns-then-x-y
unfolding larger
returns-then-x-y c = rw (c.if-x-y.true, larger)

pub returns : goal.returns
unfolding larger
returns c = rw (c.if-x-y.false, larger)
