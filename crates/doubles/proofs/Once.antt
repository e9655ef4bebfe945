-- A double is written in one way: two of them above 0.0, each at most the other, are the same. Assumes nothing.
use mathlib.Core.Path.{◌≡◌, refl, ap}
use mathlib.Core.Bool.{true, false}
use Prim.Native.Nat.{ℕ, zero, suc, ◌+◌, ◌*◌, ◌%◌, ◌^◌, ◌<◌}
use native.Mathlib.Nat.{le_antisymm, zero-mul, mul-pos, pow-suc}
use native.Mathlib.Omega.{arith}
use borrow.Author.Tests.{ltb-true, eqb-true}
use lib.Dec.{T, eqb}
use lib.Pow.{pow-add}
use lib.IntN.{ℤ, pos, negsuc}
use lib.Ieee.{Float, nan, inf, fin, binary64, lt, eq, le, fits, of_bits, up, down}
use lib.Ieee.Fits.{up_pos, down_pos}
use Rattle.doubles.specs.Num.{f0}
use Rattle.doubles.proofs.Loops.{both_true}
use Rattle.doubles.proofs.Tests.{not_both}
use Rattle.doubles.proofs.Order.{le_means}
use Rattle.doubles.proofs.Quotients.{places}

-- a significand is odd, so two doubles with the same number of units are one
pub same_units : (m n r t : ℕ) → m % 2 ≡ 1 → n % 2 ≡ 1 → m * 2 ^ r ≡ n * 2 ^ t → (m ≡ n) × (r ≡ t)
same_units m n zero zero o q h = (omega arith, refl)
same_units m n zero (suc t) o q h = absurd (omega (arith, ap (λ (z : ℕ). n * z) (pow-suc 2 t)))
same_units m n (suc r) zero o q h = absurd (omega (arith, ap (λ (z : ℕ). m * z) (pow-suc 2 r)))
same_units m n (suc r) (suc t) o q h =
    let a : m * 2 ^ suc r ≡ 2 * (m * 2 ^ r) = rw (pow-suc 2 r) (omega arith) in
    let b : n * 2 ^ suc t ≡ 2 * (n * 2 ^ t) = rw (pow-suc 2 t) (omega arith) in
    let s = same_units m n r t o q (omega arith) in
    (s.0, ap suc s.1)

-- the same, with the exponents as they are
same_scaled : (m n : ℕ) (e d : ℤ) → m % 2 ≡ 1 → n % 2 ≡ 1 → m * up e * down d ≡ n * up d * down e → (m ≡ n) × (e ≡ d)
same_scaled m n (pos a) (pos b) o q h = let s = same_units m n a b o q (omega arith) in (s.0, ap pos s.1)
same_scaled m n (pos a) (negsuc b) o q h =
    let s = same_units m n (a + suc b) 0 o q (rw (pow-add 2 a (suc b)) (omega arith)) in
    absurd (omega (arith, s.1))
same_scaled m n (negsuc a) (pos b) o q h =
    let s = same_units m n 0 (b + suc a) o q (rw (pow-add 2 b (suc a)) (omega arith)) in
    absurd (omega (arith, s.1))
same_scaled m n (negsuc a) (negsuc b) o q h =
    let s = same_units m n (suc b) (suc a) o q (omega arith) in
    let z : a ≡ b = omega (arith, s.1) in
    (s.0, ap negsuc z)

some_units : (m : ℕ) (e d : ℤ) → 0 < suc m * up e * down d
some_units m e d = let some : 0 < suc m = omega arith in mul-pos (mul-pos some (up_pos e)) (down_pos d)

pub written_once : (x y : Float) → T (fits binary64 x) → T (fits binary64 y) → lt f0 x ≡ true → le x y ≡ true → le y x ≡ true → x ≡ y
unfolding lt eq le of_bits
written_once nan y s t p h g = absurd (not_both p refl)
written_once (inf true) y s t p h g = absurd (not_both p refl)
written_once (inf false) nan s t p h g = absurd (not_both h refl)
written_once (inf false) (inf true) s t p h g = absurd (not_both h refl)
written_once (inf false) (inf false) s t p h g = refl
written_once (inf false) (fin b n d) s t p h g = absurd (not_both h refl)
written_once (fin true m e) y s t p h g = absurd (not_both p refl)
written_once (fin false m e) nan s t p h g = absurd (not_both h refl)
written_once (fin false m e) (inf true) s t p h g = absurd (not_both h refl)
written_once (fin false m e) (inf false) s t p h g = absurd (not_both g refl)
written_once (fin false zero e) (fin b n d) s t p h g = absurd (omega (arith, ltb-true (0 * 1 * down e) (0 * up e * 1) p))
written_once (fin false (suc m) e) (fin true n d) s t p h g =
    let z = eqb-true (suc m * up e * down d) 0 (both_true (eqb (suc m * up e * down d) (n * up d * down e)) _ h).1 in
    absurd (omega (arith, some_units m e d))
written_once (fin false (suc m) e) (fin false zero d) s t p h g =
    let z = le_means (suc m * up e * down d) (0 * up d * down e) _ h in
    absurd (omega (arith, some_units m e d))
written_once (fin false (suc m) e) (fin false (suc n) d) s t p h g =
    let same = same_scaled (suc m) (suc n) e d (places binary64 m e s).odd_digits (places binary64 n d t).odd_digits
    (le_antisymm (le_means _ _ _ h) (le_means _ _ _ g)) in
    cc (same.0, same.1)
