-- Doubles: short names for IEEE 754's operations at binary64, nearest even, the constants, and what Rust has as methods.
-- A constant is written by its bits, as the compiler writes a literal of the code. Assumes nothing.
use Rattle.std.specs.Prelude.{Bool, true, false, Float}
use Rattle.std.specs.Float.{nan, inf, fin, binary64}
use Rattle.std.specs.Float.Ieee.{add, sub, mul, div, lt, of_bits}

infixl 75 ◌⊕◌
infixl 75 ◌⊖◌
infixl 80 ◌⊗◌
infixl 80 ◌⊘◌
abbrev pub ◌⊕◌ : Float → Float → Float
x ⊕ y = add binary64 x y

abbrev pub ◌⊖◌ : Float → Float → Float
x ⊖ y = sub binary64 x y

abbrev pub ◌⊗◌ : Float → Float → Float
x ⊗ y = mul binary64 x y

abbrev pub ◌⊘◌ : Float → Float → Float
x ⊘ y = div binary64 x y

abbrev pub f0 : Float
f0 = of_bits binary64 0

abbrev pub f1 : Float
f1 = of_bits binary64 0x3ff0_0000_0000_0000

abbrev pub f2 : Float
f2 = of_bits binary64 0x4000_0000_0000_0000

-- 01: "EPS is the double nearest 1e-8"
abbrev pub eps : Float
eps = of_bits binary64 0x3e45_798e_e230_8c3a

-- 02: "every finite cost, coefficient, right side or bound whose size is above 1e12" is refused. 1e12 is a double,
-- 5 ^ 12 * 2 ^ 12.
abbrev pub max_number : Float
max_number = of_bits binary64 0x426d_1a94_a200_0000

abbrev pub +inf : Float
+inf = inf false

abbrev pub -inf : Float
-inf = inf true

-- is_finite, is_infinite, abs
unfoldable pub finite : Float → Bool
finite nan = false
finite (inf s) = false
finite (fin s m e) = true

unfoldable pub infinite : Float → Bool
infinite nan = false
infinite (inf s) = true
infinite (fin s m e) = false

-- the larger of two, the first where neither is
unfoldable pub larger : Float → Float → Float
larger x y = elim (lt x y) [ true ↦ y | false ↦ x ]

unfoldable pub size : Float → Float
size nan = nan
size (inf s) = inf false
size (fin s m e) = fin false m e
