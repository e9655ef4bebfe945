-- `sheet_tests::all_within` meets its contract. Assumes nothing.
use mathlib.Core.Path.{sym}
use borrow.Author.Rules.{rules}
use Rattle.sheet_tests.proofs.Joins.{joined_tells}
use Rattle.sheet_tests.proofs.all_within.Statement.{statement}
use Rattle.sheet_tests.proofs.all_within.Tie as tie

joined-requires : tie.Need-joined-requires
joined-requires c κs = search rules

returns : tie.Need-returns-then-joined-limit
returns c = sym (joined_tells _ _ _ (rw (← c.joined.ensures) c.if-joined-limit.true))

each-within-requires : tie.Need-each_within-requires
each-within-requires c κs = search rules

returns-2 : tie.Need-returns
returns-2 c = search rules

pub all_within_spec : {M : Type 1} → statement M
all_within_spec = tie.close (tie.spec joined-requires returns each-within-requires returns-2)
