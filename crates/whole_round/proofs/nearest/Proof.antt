-- `whole_round::nearest`: the machine's own rounding below 2 ^ 52; from there on there is no fraction. Assumes nothing.
use lib.Ieee.{of_bits}
use denote.Floats.{passes}
use Rattle.whole_round.proofs.Parts.{Part, Small, part, asks, small, large}
use Rattle.whole_round.proofs.nearest.Statement.{statement}
use Rattle.whole_round.proofs.nearest.Tie as tie

at : (c : tie.Start) → Part c.args.a
at c = part c.args.a c.requires.0 c.requires.1

under : (c : tie.Then-a) → Small c.args.a
unfolding of_bits
under c = small c.args.a (at c.before) c.if-a.true

float-to-int-result : tie.Need-float_to_int-result
unfolding of_bits
float-to-int-result c = (under c.before).fits

returns : tie.Need-returns-then-a
unfolding of_bits
returns c = (under c.before).near

truncating-f64-to-u64-requires : tie.Need-truncating_f64_to_u64-requires
truncating-f64-to-u64-requires c κs = asks c.args.a (at c.before)

returns-2 : tie.Need-returns
unfolding of_bits
returns-2 c =
    large c.args.a _ (at c.before.before) (passes _ c.before.before.well_formed.0.1)
    c.if-a.false c.truncating_f64_to_u64.ensures

pub nearest_spec : {M : Type 1} → statement M
nearest_spec = tie.close (tie.spec float-to-int-result returns truncating-f64-to-u64-requires returns-2)
