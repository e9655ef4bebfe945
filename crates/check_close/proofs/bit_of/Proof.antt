-- `check_close::bit_of`: by cases. Assumes nothing.
use Rattle.check_close.proofs.bit_of.Statement.{statement}
use Rattle.check_close.proofs.bit_of.Tie as tie

returns : tie.Need-returns-then-b
returns c = rw c.if-b.true

returns-2 : tie.Need-returns
returns-2 c = rw c.if-b.false

pub bit_of_spec : {M : Type 1} → statement M
bit_of_spec = tie.close (tie.spec returns returns-2)
