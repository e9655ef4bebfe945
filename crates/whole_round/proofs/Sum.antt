-- The machine's own rounding: a + 2 ^ 52 keeps all digits but those of the fraction, so it is the nearest whole number
-- and 2 ^ 52, which comes off exactly. Assumes nothing.
use Rattle.std.proofs.Common.{◌≡◌, ℕ, ◌+◌, ◌-◌, ◌*◌, ◌/◌, ◌%◌, ◌^◌, ◌<◌, ◌≤◌, true, false, ℤ, pos, refl, ap, ◌∙◌, subst, true≢false, le_trans, le_of_eq, lt_of_lt_of_le, lt_of_le_of_lt, mul-le-mul_right, mul_assoc, mul_comm, div-lt_iff_lt-mul, add-mul, le_antisymm, mul-lt-mul_of_pos_right, mul-pos, lt_of_not-le, le-div_iff_mul-le, mul-one, mul_right_comm, not-le_of_lt, arith, lit≤, pow_pos, pow_mono, le-ltb}
use Prim.Native.Nat.{compare}
use native.Mathlib.Nat.{eq_of_mul-eq-mul_right}
use lib.Ieee.{Float, fin, binary64, up, down, size, round, add, sub, of_int}
use lib.Ieee.Digits.{size-lt, size-le}
use lib.Ieee.Fits.{down_pos, nearest-le}
use lib.Ieee.Exact.{HasValue}
use lib.Ieee.Nearest.{closest, closest_same}
use lib.Ieee.Order.{drop}
use lib.Ieee.Scale.{grid, round_val, round_same}
use Rattle.whole_round.proofs.Closest.{shifted}

sized : (n : ℕ) → 2 ^ 1126 ≤ n → n < 2 ^ 1127 → size n ≡ 1127
sized n h k =
    le_antisymm (size-le n 1127 k)
    (lt_of_not-le (λ (g : size n ≤ 1126). not-le_of_lt (lt_of_lt_of_le (size-lt n) (pow_mono g)) h))

-- a fraction from 2 ^ 52 up and below 2 ^ 53 rounds to a whole number
grid_is : (n d : ℕ) → 0 < d → 2 ^ 52 * d ≤ n → n < 2 ^ 53 * d → grid binary64 n d ≡ closest n d * 2 ^ 1074
grid_is n d p h k =
    let lo : 2 ^ 1126 ≤ n * 2 ^ 1074 / d =
    (le-div_iff_mul-le p).1
    (le_trans (le_of_eq (mul_right_comm (2 ^ 52) (2 ^ 1074) d)) (mul-le-mul_right (2 ^ 1074) h)) in
    let hi : n * 2 ^ 1074 / d < 2 ^ 1127 =
    (div-lt_iff_lt-mul p).1
    (lt_of_lt_of_le (mul-lt-mul_of_pos_right k (pow_pos 1074)) (le_of_eq (mul_right_comm (2 ^ 53) d (2 ^ 1074)))) in
    let e : drop 53 (n * 2 ^ 1074) d ≡ 1074 = ap (λ (z : ℕ). z - 53) (sized (n * 2 ^ 1074 / d) lo hi) in
    ap (λ (z : ℕ). closest (n * 2 ^ 1074) (d * 2 ^ z) * 2 ^ z) e
    ∙ ap (λ (z : ℕ). z * 2 ^ 1074)
    (closest_same (n * 2 ^ 1074) (d * 2 ^ 1074) n d (mul-pos p (pow_pos 1074)) p (mul_assoc n (2 ^ 1074) d ∙ ap (λ (z : ℕ). n * z) (mul_comm (2 ^ 1074) d)))

unscaled : (y : Float) (c P : ℕ) → 0 < P → HasValue y false (c * P) P → HasValue y false c 1
unscaled lib.Ieee.nan c P p v = elim v [ ]
unscaled (lib.Ieee.inf _) c P p v = elim v [ ]
unscaled (fin s m e) c P p v =
    (v.0, mul-one (m * up e) ∙ eq_of_mul-eq-mul_right P p (m * up e) (c * down e) (v.1 ∙ mul_right_comm c P (down e)))

sum_value : (n d : ℕ) → 0 < d → n < 2 ^ 52 * d
    → HasValue (round binary64 false (n + 2 ^ 52 * d) d) false (closest n d + 2 ^ 52) 1
sum_value n d p h =
    let c : ℕ = closest n d + 2 ^ 52 in
    let few : n / d < 2 ^ 52 = (div-lt_iff_lt-mul p).1 h in
    let g : grid binary64 (n + 2 ^ 52 * d) d ≡ c * 2 ^ 1074 =
    grid_is (n + 2 ^ 52 * d) d p (omega arith) (omega arith)
    ∙ ap (λ (z : ℕ). z * 2 ^ 1074) (shifted n d (2 ^ 52) p refl) in
    let small : c ≤ 2 ^ 53 = omega (arith, nearest-le (n / d) (compare (n % d * 2) d)) in
    unscaled (round binary64 false (n + 2 ^ 52 * d) d) c (2 ^ 1074) (pow_pos 1074)
    (subst (λ (z : ℕ). HasValue (round binary64 false (n + 2 ^ 52 * d) d) false z (2 ^ 1074)) g
    (round_val binary64 (n + 2 ^ 52 * d) d (rw g (lt_of_le_of_lt (mul-le-mul_right (2 ^ 1074) small) (lit≤ tt)))))

added : (m : ℕ) (e : ℤ)
    → add binary64 (fin false m e) (fin false 1 (pos 52)) ≡ round binary64 false (m * up e * 1 + 2 ^ 52 * down e) (down e * 1)
unfolding add
added m e = refl

-- 2 ^ 52 taken off c + 2 ^ 52
picked : (m : ℕ) (e : ℤ) → 2 ^ 52 * down e ≤ m * up e * 1
    → sub binary64 (fin false m e) (fin false 1 (pos 52)) ≡ round binary64 false (m * up e * 1 - 2 ^ 52 * down e) (down e * 1)
unfolding sub
picked m e h = rw (le-ltb (m * up e * 1) (2 ^ 52 * down e) h)

of_int_holds : (c : ℕ) → round binary64 false c 1 ≡ of_int binary64 (pos c)
unfolding of_int
of_int_holds c = refl

off : (y : Float) (c : ℕ) → HasValue y false (c + 2 ^ 52) 1
    → sub binary64 y (fin false 1 (pos 52)) ≡ of_int binary64 (pos c)
off lib.Ieee.nan c v = elim v [ ]
off (lib.Ieee.inf _) c v = elim v [ ]
off (fin true m e) c v = absurd (true≢false v.0)
off (fin false m e) c v =
    let x : m * up e * 1 ≡ c * down e + 2 ^ 52 * down e = v.1 ∙ add-mul c (2 ^ 52) (down e) in
    picked m e (omega arith)
    ∙ round_same binary64 false (m * up e * 1 - 2 ^ 52 * down e) (down e * 1) c 1 (omega (arith, down_pos e))
    (lit≤ tt) (omega arith)
    ∙ of_int_holds c

pub exactly : (m : ℕ) (e : ℤ) → m * up e < 2 ^ 52 * down e
    → sub binary64 (add binary64 (fin false m e) (fin false 1 (pos 52))) (fin false 1 (pos 52)) ≡ of_int binary64 (pos (closest (m * up e) (down e)))
exactly m e h =
    off (add binary64 (fin false m e) (fin false 1 (pos 52))) (closest (m * up e) (down e))
    (rw (added m e, mul-one (m * up e), mul-one (down e)) (sum_value (m * up e) (down e) (down_pos e) h))
