-- `words::bits_of` meets its contract: only a NaN differs from itself, and all NaN have one pattern. Assumes nothing.
use mathlib.Core.Path.{◌≡◌, refl, sym, ◌∙◌, subst}
use mathlib.Core.Bool.{Bool, true, not}
use lib.Dec.{T}
use lib.Ieee.{Float, nan, inf, fin, binary64, is_nan, to_bits}
use borrow.Author.Rules.{rules}
use Rattle.doubles.proofs.Floats.{differs}
use Rattle.words.proofs.bits_of.Statement.{statement}
use Rattle.words.proofs.bits_of.Tie as tie

the_nan : (x : Float) → is_nan x ≡ true → 0x7ff8_0000_0000_0000 ≡ to_bits binary64 x
unfolding is_nan to_bits
the_nan nan h = refl
the_nan (inf s) h = cc
the_nan (fin s m e) h = cc

returns : tie.Need-returns-then-x
returns c = the_nan c.before.args.x (sym (differs c.before.args.x) ∙ c.if-x.true)

float-to-bits-result : tie.Need-float_to_bits-result
float-to-bits-result c = subst (λ (b : Bool). T (not b)) (sym c.if-x.false ∙ differs c.before.args.x) tt

returns-2 : tie.Need-returns
returns-2 c = search rules

pub bits_of_spec : {M : Type 1} → statement M
bits_of_spec = tie.close (tie.spec returns float-to-bits-result returns-2)
