-- `whole_round::multiplier`: the product is exact, or past every limit; then the sign. Assumes nothing.
use Rattle.std.proofs.Common.{ap, ◌∙◌, rules}
use lib.Ieee.{of_bits, neg}
use denote.Floats.{passes}
use Rattle.whole_round.specs.Whole.{right_sign, multiplier_of}
use Rattle.whole_round.proofs.Product.{scaled_is}
use Rattle.whole_round.proofs.multiplier.Statement.{statement}
use Rattle.whole_round.proofs.multiplier.Tie as tie

cast-round-even : tie.Need-overflow_cast-round_even
cast-round-even c = search rules

round-even-requires : tie.Need-round_even-r-requires
round-even-requires c κs = search rules

right-sign-requires : tie.Need-right_sign-requires
right-sign-requires c κs = search rules

returns : tie.Need-returns
unfolding of_bits neg multiplier_of
returns c =
    let e : tie.After-round_even-r = search in
    let s : tie.Start = search in
    c.right_sign.ensures
    ∙ ap (right_sign s.args.op) (e.round_even-r.ensures ∙ scaled_is s.args.price (passes _ s.well_formed.1.0.1))

pub multiplier_spec : {M : Type 1} → statement M
multiplier_spec = tie.close (tie.spec cast-round-even round-even-requires right-sign-requires returns)
