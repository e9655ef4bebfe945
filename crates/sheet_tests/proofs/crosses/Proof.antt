-- `sheet_tests::crosses` meets its contract. Assumes nothing.
use Rattle.sheet_rules.specs.Opening.{crosses}
use Rattle.sheet_terms.proofs.Machine.{of_word}
use Rattle.sheet_tests.proofs.crosses.Statement.{statement}
use Rattle.sheet_tests.proofs.crosses.Tie as tie

returns : tie.Need-returns
unfolding crosses
returns c = rw (of_word c.ranges.low, of_word c.ranges.high)

pub crosses_spec : {M : Type 1} → statement M
crosses_spec = tie.close (tie.spec returns)
