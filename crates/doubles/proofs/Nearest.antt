-- 01: "EPS is the double nearest 1e-8". A double is a whole number of units of 2 ^ -79, or its unit is finer and, with
-- 53 digits, it is below 2 ^ -27, which is less than three quarters of 1e-8. Of the first kind the one within half a
-- unit of 1e-8 is nearer than any other. Assumes nothing.
use mathlib.Core.Path.{◌≡◌, refl, ap, ◌∙◌}
use mathlib.Core.Bool.{Bool, true, false}
use mathlib.Core.Logic.{⊎_elim}
use Prim.Native.Nat.{ℕ, zero, suc, ◌+◌, ◌-◌, ◌*◌, ◌%◌, ◌^◌, ◌<◌, ◌≤◌}
use native.Mathlib.Nat.{zero-mul, suc-mul, mul-add, mul-sub, mul-le-mul_left, mul-lt-mul_of_pos_right}
use native.Mathlib.Nat.{lt_of_mul-lt-mul_right, pow-suc}
use native.Mathlib.Omega.{arith}
use borrow.Author.Tests.{ltb-true, ltb-false}
use lib.Dec.{T, ltb}
use lib.Pow.{pow-add, pow_pos, pow_mono}
use lib.IntN.{ℤ, pos, negsuc, neg_ℤ, nat_abs, sub_ℕ, ◌-ℤ◌, ◌*ℤ◌}
use lib.Ieee.{Float, nan, inf, fin, binary64, fits, of_bits, up, down}
use lib.Ieee.Fits.{down_pos}
use Rattle.doubles.specs.Num.{eps, finite}
use Rattle.doubles.specs.Exact.{signed, gap, Nearer, NearestDouble}
use Rattle.doubles.proofs.Bools.{truth}
use Rattle.doubles.proofs.Tests.{not_both}
use Rattle.doubles.proofs.Quotients.{places}
use Rattle.doubles.proofs.Once.{same_units}

-- ---- a gap in numbers from 0 up
abbrev apart : ℕ → ℕ → ℕ
apart a b = (a - b) + (b - a)

abs_sub : (a b : ℕ) → nat_abs (sub_ℕ a b) ≡ apart a b
abs_sub a b =
    ⊎_elim (λ h. rw h (omega (arith, ltb-true a b h))) (λ h. rw h (omega (arith, ltb-false a b h))) (truth (ltb a b))

minus_pos : (a b : ℕ) → nat_abs (pos a -ℤ pos b) ≡ apart a b
minus_pos a zero = omega arith
minus_pos a (suc b) = abs_sub a (suc b)

minus_both : (a b : ℕ) → nat_abs (neg_ℤ (pos a) -ℤ pos b) ≡ a + b
minus_both zero b = minus_pos 0 b ∙ omega arith
minus_both (suc a) zero = abs_sub 0 (suc a) ∙ omega arith
minus_both (suc a) (suc b) = omega arith

neg_mul : (m u : ℕ) → neg_ℤ (pos m) *ℤ pos u ≡ neg_ℤ (pos (m * u))
neg_mul zero u = rw (zero-mul u)
neg_mul (suc m) u = refl

-- ---- m / P is m * R units where P * R is 2 ^ 79
-- how far m / P is from 1e-8, in units of 1e-8 / P; and in units of 1e-8 * 2 ^ -79
abbrev off : ℕ → ℕ → ℕ
off m P = apart (m * (1 * 10 ^ 8)) (1 * P)

abbrev off_units : ℕ → ℕ
off_units n = apart (n * 10 ^ 8) (2 ^ 79)

scaled : (m P R : ℕ) → P * R ≡ 2 ^ 79 → R * off m P ≡ off_units (m * R)
scaled m P R g =
    let a : R * (m * (1 * 10 ^ 8)) ≡ m * R * 10 ^ 8 = omega arith in
    let b : R * (1 * P) ≡ 2 ^ 79 = omega arith in
    simp (mul-add, mul-sub, a, b)

-- where one number of units is within half a unit of 1e-8, another isn't
other_units : (n o : ℕ) → 2 * off_units n < 10 ^ 8 → ¬ (o ≡ n) → off_units n < off_units o
other_units n o h d = omega arith

-- ---- the two ways to be farther off, A / Q against B / P
cross : (A B P Q R S : ℕ) → P * R ≡ 2 ^ 79 → Q * S ≡ 2 ^ 79 → R * B < S * A → B * Q < A * P
cross A B P Q R S g h l =
    lt_of_mul-lt-mul_right (R * S) (omega (arith, ap (λ (z : ℕ). R * B * z) h, ap (λ (z : ℕ). S * A * z) g))

-- by more than a quarter of 1e-8
quarter : (A B P Q R : ℕ) → P * R ≡ 2 ^ 79 → 2 * (R * B) < 10 ^ 8 → Q < 4 * A → B * Q < A * P
quarter A B P Q R g l h =
    let four : 4 * B < P = lt_of_mul-lt-mul_right R (omega arith) in
    let some : 0 < A = omega arith in
    let less : Q ≤ 4 * A = omega arith in
    omega (arith, mul-le-mul_left B less, mul-lt-mul_of_pos_right four some)

-- a finer unit, and a whole number
finer : (m P : ℕ) → m < 2 ^ 53 → 2 ^ 80 ≤ P → P < 4 * off m P
finer m P h g = omega arith

coarse : (m U : ℕ) → 0 < U → 1 < 4 * apart (m * (U * 10 ^ 8)) (1 * 1)
coarse zero U u = omega (arith, zero-mul (U * 10 ^ 8))
coarse (suc m) U u = omega (arith, suc-mul m (U * 10 ^ 8))

-- ---- the law: a double of at least that unit, within half of it from 1e-8, is the nearest
units : (k : ℕ) → k < 79 → 2 ^ suc k * 2 ^ (78 - k) ≡ 2 ^ 79
units k h = let e : suc k + (78 - k) ≡ 79 = omega arith in rw (← pow-add 2 (suc k) (78 - k), e)

module _ (n k : ℕ) (d : T (fits binary64 (fin false (suc n) (negsuc k)))) (h : k < 79)
    (near : 2 * off_units (suc n * 2 ^ (78 - k)) < 10 ^ 8) where
  abbrev x : Float
  x = fin false (suc n) (negsuc k)

  abbrev B : ℕ
  B = off (suc n) (2 ^ suc k)

  far : (A Q : ℕ) → Q < 4 * A → B * Q < A * 2 ^ suc k
  far A Q l =
      let R = 2 ^ (78 - k) in
      quarter A B (2 ^ suc k) Q R (units k h) (rw (scaled (suc n) (2 ^ suc k) R (units k h)) near) l

  -- against m / 2 ^ (j + 1)
  module _ (m j : ℕ) (f : T (fits binary64 (fin false (suc m) (negsuc j))))
      (o : ¬ (fin false (suc m) (negsuc j) ≡ x)) where
    only : j < 79 → (suc m ≡ suc n) × (78 - j ≡ 78 - k) → fin false (suc m) (negsuc j) ≡ x
    only l q = let e : j ≡ k = omega arith in rw (q.0, e)

    other : j < 79 → ¬ (suc m * 2 ^ (78 - j) ≡ suc n * 2 ^ (78 - k))
    other l q =
        let s = (places binary64 m (negsuc j) f).odd_digits in
        o (only l (same_units (suc m) (suc n) (78 - j) (78 - k) s (places binary64 n (negsuc k) d).odd_digits q))

    whole_units : j < 79 → B * 2 ^ suc j < off (suc m) (2 ^ suc j) * 2 ^ suc k
    whole_units l =
        let R = 2 ^ (78 - k) in
        let S = 2 ^ (78 - j) in
        cross (off (suc m) (2 ^ suc j)) B (2 ^ suc k) (2 ^ suc j) R S (units k h) (units j l)
        (rw (scaled (suc n) (2 ^ suc k) R (units k h), scaled (suc m) (2 ^ suc j) S (units j l))
        (other_units (suc n * R) (suc m * S) near (other l)))

    finer_unit : 79 ≤ j → B * 2 ^ suc j < off (suc m) (2 ^ suc j) * 2 ^ suc k
    finer_unit l =
        let few = (places binary64 m (negsuc j) f).few_digits in
        far _ (2 ^ suc j) (finer (suc m) (2 ^ suc j) few (pow_mono {i = 80} (omega arith)))

    fraction : B * 2 ^ suc j < off (suc m) (2 ^ suc j) * 2 ^ suc k
    fraction = ⊎_elim (λ l. whole_units (ltb-true j 79 l)) (λ l. finer_unit (ltb-false j 79 l)) (truth (ltb j 79))

  farther : (s : Bool) (m : ℕ) (e : ℤ) → T (fits binary64 (fin s m e)) → ¬ (fin s m e ≡ x)
      → B * down e < gap (signed s m) e (pos 1) (10 ^ 8) * 2 ^ suc k
  farther true m e f o =
      far _ (down e)
      (rw (neg_mul m (up e * 10 ^ 8), minus_both (m * (up e * 10 ^ 8)) (1 * down e)) (omega (arith, down_pos e)))
  farther false m (pos i) f o = far _ 1 (rw (minus_pos (m * (2 ^ i * 10 ^ 8)) (1 * 1)) (coarse m (2 ^ i) (pow_pos i)))
  farther false zero (negsuc j) f o =
      far _ (2 ^ suc j) (rw (minus_pos (0 * (1 * 10 ^ 8)) (1 * 2 ^ suc j)) (omega (arith, pow_pos (suc j))))
  farther false (suc m) (negsuc j) f o = rw (minus_pos (suc m * (1 * 10 ^ 8)) (1 * 2 ^ suc j)) (fraction m j f o)

  nearest_by : NearestDouble x (pos 1) (10 ^ 8)
  unfolding finite
  nearest_by = record { a_double = d; is_finite = refl; nearest = others }
    where
      others : (y : Float) → T (fits binary64 y) → finite y ≡ true → ¬ (y ≡ x) → Nearer x y (pos 1) (10 ^ 8)
      others nan f b o = absurd (not_both b refl)
      others (inf s) f b o = absurd (not_both b refl)
      others (fin s m e) f b o = rw (minus_pos (suc n * (1 * 10 ^ 8)) (1 * 2 ^ suc k)) (farther s m e f o)

pub eps_nearest : NearestDouble eps (pos 1) (10 ^ 8)
unfolding of_bits fits
eps_nearest = nearest_by _ _ tt (omega arith) (omega arith)
