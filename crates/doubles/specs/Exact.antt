-- The exact value of a double, a whole number times a power of two, and how near it is to a fraction. Assumes nothing.
use Rattle.std.specs.Prelude.{ℕ, ◌*◌, ◌<◌, ◌≡◌, Bool, true, false, T, ℤ, pos, neg_ℤ, nat_abs, ◌-ℤ◌, ◌*ℤ◌, Float}
use Rattle.std.specs.Float.{nan, inf, fin, binary64}
use Rattle.std.specs.Float.Ieee.{fits, up, down}
use Rattle.doubles.specs.Num.{finite}

-- n or -n
abbrev pub signed : Bool → ℕ → ℤ
signed false n = pos n
signed true n = neg_ℤ (pos n)

-- A finite double x is exactly `significand x` * 2 ^ `exponent x`. A NaN and an infinity have no such value: statements
-- ask for a finite double.
abbrev pub significand : Float → ℤ
significand nan = pos 0
significand (inf s) = pos 0
significand (fin s m e) = signed s m

abbrev pub exponent : Float → ℤ
exponent nan = pos 0
exponent (inf s) = pos 0
exponent (fin s m e) = e

-- how far n * 2 ^ e is from p / q, in units of 1 / (q * down e), where 2 ^ e is up e / down e
abbrev pub gap : (n e p : ℤ) (q : ℕ) → ℕ
gap n e p q = nat_abs (n *ℤ pos (up e * q) -ℤ p *ℤ pos (down e))

-- the finite double x is nearer to p / q than the finite double y is
abbrev pub Nearer : Float → Float → ℤ → ℕ → Type 0
Nearer x y p q =
    gap (significand x) (exponent x) p q * down (exponent y) < gap (significand y) (exponent y) p q * down (exponent x)

-- x is the double nearest to p / q: no other one is as near
pub record NearestDouble (x : Float) (p : ℤ) (q : ℕ) : Type 0 where
  pub a_double : T (fits binary64 x)
  pub is_finite : finite x ≡ true
  pub nearest : (y : Float) → T (fits binary64 y) → finite y ≡ true → ¬ (y ≡ x) → Nearer x y p q
