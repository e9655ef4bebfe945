-- `whole_round::amount`: the limit is the sheet's. Assumes nothing.
use Rattle.std.proofs.Common.{rules}
use Rattle.whole_round.specs.Whole.{amount_of}
use Rattle.whole_round.proofs.amount.Statement.{statement}
use Rattle.whole_round.proofs.amount.Tie as tie

cast-round-even : tie.Need-overflow_cast-round_even
cast-round-even c = search rules

round-even-requires : tie.Need-round_even-requires
round-even-requires c κs = search rules

returns : tie.Need-returns
unfolding amount_of
returns c = c.round_even.ensures

pub amount_spec : {M : Type 1} → statement M
amount_spec = tie.close (tie.spec cast-round-even round-even-requires returns)
