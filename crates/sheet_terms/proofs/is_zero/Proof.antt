-- `sheet_terms::is_zero` meets its contract. Assumes nothing.
use Rattle.sheet_terms.proofs.Word.{zero_word}
use Rattle.sheet_terms.proofs.is_zero.Statement.{statement}
use Rattle.sheet_terms.proofs.is_zero.Tie as tie

returns : tie.Need-returns
returns c = zero_word c.args.z c.ranges.z

pub is_zero_spec : {M : Type 1} → statement M
is_zero_spec = tie.close (tie.spec returns)
