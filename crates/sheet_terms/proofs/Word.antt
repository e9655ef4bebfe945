-- The machine's bits: what is 0. Assumes nothing.
use mathlib.Core.Path.{◌≡◌, refl}
use mathlib.Core.Bool.{◌&&◌}
use Prim.Native.Nat.{ℕ, zero, suc, ◌-◌, ◌^◌}
use native.Mathlib.Omega.{arith}
use lib.Bits.{bit_or, or_zero_l, or_add_and, and_le_r}
use lib.Dec.{eqb, eqb-suc-zero}
use lib.IntN.{ℤ, pos, negsuc}
use mir.Syntax.{w64}
use mir.Val.{Fits, SFits, of_z, to_z}
use Rattle.std.proofs.Math.Facts.{of_z-to_z, Fits-of_z, Fits-or}
use borrow.Author.Tests.{ne_eqb}
use Rattle.sheet_rules.specs.Verdict.{is_zero}

-- a number is 0 where its bits are
pub zero_word : (z : ℤ) → SFits w64 z → eqb (of_z w64 z) 0 ≡ is_zero z
unfolding is_zero
zero_word (pos zero) f = refl
zero_word (pos (suc n)) f = ne_eqb (suc n) 0 (λ e. absurd (omega (arith, e)))
zero_word (negsuc n) f = ne_eqb (2 ^ 64 - suc n) 0 (λ e. absurd (omega (arith, e, f.sfits)))

-- an or is 0 where both of its numbers are
pub or_zero : (a b : ℕ) → eqb (bit_or a b) 0 ≡ eqb a 0 && eqb b 0
or_zero zero b = rw (or_zero_l b)
or_zero (suc a) b =
    rw (eqb-suc-zero a)
    (ne_eqb (bit_or (suc a) b) 0 (λ e. absurd (omega (arith, e, or_add_and (suc a) b, and_le_r (suc a) b))))

-- one number more: the bits or-ed together are 0 where they were and it is
pub zero_more : (b : ℕ) (z : ℤ) → Fits w64 b → SFits w64 z → eqb (of_z w64 (to_z w64 (bit_or b (of_z w64 z)))) 0 ≡ eqb (of_z w64 (to_z w64 b)) 0 && is_zero z
zero_more b z f g = rw (of_z-to_z (Fits-or f (Fits-of_z g)), of_z-to_z f, or_zero, zero_word z g)
