-- `sheet_terms::bit` meets its contract. Assumes nothing.
use Rattle.sheet_rules.specs.Sum.{bit}
use Rattle.sheet_terms.proofs.bit.Statement.{statement}
use Rattle.sheet_terms.proofs.bit.Tie as tie

returns : tie.Need-returns-then-t
unfolding bit
returns c = rw c.if-t.true

returns-2 : tie.Need-returns-else-t
unfolding bit
returns-2 c = rw c.if-t.false

pub bit_spec : {M : Type 1} → statement M
bit_spec = tie.close (tie.spec returns returns-2)
