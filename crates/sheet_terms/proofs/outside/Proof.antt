-- `sheet_terms::outside` meets its contract. Assumes nothing.
use Rattle.sheet_rules.specs.Sheet.{outside}
use Rattle.sheet_terms.proofs.Machine.{of_word}
use Rattle.sheet_terms.proofs.outside.Statement.{statement}
use Rattle.sheet_terms.proofs.outside.Tie as tie

returns : tie.Need-returns
unfolding outside
returns c = rw (of_word c.ranges.z, of_word c.ranges.low, of_word c.ranges.high)

pub outside_spec : {M : Type 1} → statement M
outside_spec = tie.close (tie.spec returns)
