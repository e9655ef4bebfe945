-- `doubles::abs`: by cases. That a zero is written in one way only is what owning a double tells. Assumes nothing.
use mathlib.Core.Path.{◌∙◌}
use lib.Ieee.{of_bits}
use borrow.Author.Rules.{rules}
use denote.Floats.{passes}
use Rattle.doubles.proofs.Floats.{size_zero, size_larger}
use Rattle.doubles.proofs.abs.Statement.{statement}
use Rattle.doubles.proofs.abs.Tie as tie

larger-requires : tie.Need-larger-y-requires
larger-requires c κs = search rules

returns : tie.Need-returns-then-x
unfolding of_bits
returns c = let s : tie.Start = search in size_zero s.args.x (passes _ s.well_formed.0.1) c.if-x.true

returns-2 : tie.Need-returns-else-x
unfolding of_bits
returns-2 c = let s : tie.After-larger-y = search in s.larger-y.ensures ∙ size_larger _ c.if-x.false

pub abs_spec : {M : Type 1} → statement M
abs_spec = tie.close (tie.spec larger-requires returns returns-2)
