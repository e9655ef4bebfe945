-- `words::double_of` meets its contract: the bits past those of an infinity are a NaN's, and no others. Assumes nothing.
use mathlib.Core.Path.{◌≡◌, sym, subst}
use mathlib.Core.Logic.{⊎_elim}
use mathlib.Core.Bool.{Bool, false, not}
use Prim.Native.Nat.{ℕ, ◌/◌, ◌%◌, ◌<◌, ◌≤◌}
use native.Mathlib.Nat.{eq-or-lt_of_le}
use native.Mathlib.Omega.{arith}
use lib.Dec.{T}
use lib.Ieee.{nan, binary64, div, nan_bits, of_bits}
use borrow.Author.Rules.{rules}
use borrow.Author.Tests.{ne_eqb}
use Rattle.words.proofs.double_of.Statement.{statement}
use Rattle.words.proofs.double_of.Tie as tie

past_infinity : (b : ℕ) → 0x7ff0_0000_0000_0000 < b % 0x8000_0000_0000_0000 → nan ≡ of_bits binary64 b
unfolding of_bits
past_infinity b h =
    let q : b % 0x8000_0000_0000_0000 / 0x0010_0000_0000_0000 ≡ 2047 = omega (arith, h) in
    let r : ¬ (b % 0x0010_0000_0000_0000 ≡ 0) = λ e. omega (arith, h, e) in rw (q, ne_eqb (b % 0x0010_0000_0000_0000) 0 r)

below : (b : ℕ) → b % 0x8000_0000_0000_0000 < 0x7ff0_0000_0000_0000 → nan_bits binary64 b ≡ false
unfolding nan_bits
below b h = let q : ¬ (b % 0x8000_0000_0000_0000 / 0x0010_0000_0000_0000 ≡ 2047) = λ e. omega (arith, e, h) in rw (ne_eqb (b % 0x8000_0000_0000_0000 / 0x0010_0000_0000_0000) 2047 q)

at_infinity : (b : ℕ) → b % 0x8000_0000_0000_0000 ≡ 0x7ff0_0000_0000_0000 → nan_bits binary64 b ≡ false
unfolding nan_bits
at_infinity b h = let r : b % 0x0010_0000_0000_0000 ≡ 0 = omega (arith, h) in rw (h, r)

up_to_infinity : (b : ℕ) → b % 0x8000_0000_0000_0000 ≤ 0x7ff0_0000_0000_0000 → nan_bits binary64 b ≡ false
up_to_infinity b h = ⊎_elim (at_infinity b) (below b) (eq-or-lt_of_le h)

returns : tie.Need-returns-then-bits-gt-INFINITY
unfolding div of_bits
returns c = past_infinity c.before.args.bits c.if-bits-gt-INFINITY.true

float-from-bits-result : tie.Need-float_from_bits-result
float-from-bits-result c = subst (λ (b : Bool). T (not b)) (sym (up_to_infinity c.before.args.bits (omega (arith, c.if-bits-gt-INFINITY.false)))) tt

returns-2 : tie.Need-returns
returns-2 c = search rules

pub double_of_spec : {M : Type 1} → statement M
double_of_spec = tie.close (tie.spec returns float-from-bits-result returns-2)
