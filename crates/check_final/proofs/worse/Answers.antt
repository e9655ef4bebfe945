-- `check_final::worse`: by its test. Assumes nothing.
use Rattle.check_final.specs.Lent.{worse_of}
use Rattle.check_final.proofs.worse.Goals as goal

pub returns-then-w-x : goal.returns-then-w-x
unfolding worse_of
returns-then-w-x c = rw (c.if-w-x.true, worse_of)

pub returns : goal.returns
unfolding worse_of
returns c = rw (c.if-w-x.false, worse_of)
