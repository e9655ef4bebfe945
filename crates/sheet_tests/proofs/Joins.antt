-- What numbers looked at together tell of each. Assumes nothing.
use mathlib.Core.Path.{◌≡◌, refl}
use mathlib.Core.Bool.{true}
use mathlib.Core.List.{List}
use Prim.Native.Nat.{ℕ, zero, suc, ◌≤◌, ◌<◌}
use native.Mathlib.Omega.{arith}
use lib.Bits.{bit_or, or_add_and, and_le_r, and_le_l}
use lib.IntN.{ℤ, pos, negsuc}
use lib.Signed.{mag}
use borrow.Author.Tests.{le-leb}
use Rattle.doubles.specs.Loop.{run, all}
use Rattle.sheet_rules.specs.Sum.{◌‼◌}
use Rattle.sheet_rules.specs.Opening.{all_within, within}
use Rattle.sheet_tests.specs.Joined.{joined}

-- an or is as large as either number
or_left : (a b : ℕ) → a ≤ bit_or a b
or_left a b = omega (arith, or_add_and a b, and_le_r a b)

or_right : (a b : ℕ) → b ≤ bit_or a b
or_right a b = omega (arith, or_add_and a b, and_le_l a b)

-- one less below 0: what stays below the limit is within it
mag_within : (m : ℕ) (z : ℤ) → mag z < m → within m z ≡ true
mag_within m (pos n) h = le-leb n m (omega (arith, h))
mag_within m (negsuc n) h = le-leb (suc n) m h

pub joined_tells : (m n : ℕ) (l : List ℤ) → joined n l < m → all_within m n l ≡ true
unfolding joined all_within run all
joined_tells m zero l h = refl
joined_tells m (suc n) l h = rw (
  joined_tells m n l (omega (arith, h, or_left (joined n l) (mag (l ‼ n)))),
  mag_within m (l ‼ n) (omega (arith, h, or_right (joined n l) (mag (l ‼ n)))),
)
