-- `cells::var_state`: by its test. Assumes nothing.
use borrow.Author.Tests.{lt-ltb, le-ltb}
use Rattle.rules.specs.Plan.{var_state_of}
use Rattle.cells.proofs.var_state.Statement.{statement}
use Rattle.cells.proofs.var_state.Tie as tie

returns : tie.Need-returns-then-cell-n
unfolding var_state_of
returns c = rw (lt-ltb _ _ c.if-cell-n.true, var_state_of)

returns-2 : tie.Need-returns
unfolding var_state_of
returns-2 c = rw (le-ltb _ _ c.if-cell-n.false, var_state_of)

pub var_state_spec : {M : Type 1} → statement M
var_state_spec = tie.close (tie.spec returns returns-2)
