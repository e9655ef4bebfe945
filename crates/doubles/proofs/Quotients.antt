-- Where (l + y) / s is finite so are l and l / s, which isn't larger, for l and y that aren't negative: a rounded sum and a rounded quotient keep the order. Assumes nothing.
use mathlib.Core.Path.{◌≡◌, refl, sym, subst}
use mathlib.Core.Bool.{Bool, true, false, not, ◌&&◌, cond}
use Prim.Native.Nat.{ℕ, zero, suc, ◌+◌, ◌-◌, ◌*◌, ◌%◌, ◌^◌, ◌<◌, ◌≤◌}
use native.Mathlib.Nat.{zero-mul, mul-pos, mul_assoc, mul-one, mul-le-mul_right, mul-lt-mul_of_pos_right, lt_of_not-le, le_of_suc-le-suc}
use native.Mathlib.Omega.{arith}
use borrow.Author.Tests.{ltb-true, le-ltb}
use lib.Dec.{T, ltb, leb, eqb, ltb→lt, leb→le, eqb→eq, eqb-suc-zero}
use lib.Pow.{pow-add, pow_pos, pow-lt}
use lib.IntN.{ℤ, pos, negsuc}
use lib.Ieee.{Float, nan, inf, fin, Format, binary64, prec, emax, low, up, down, odd, units, round, sum, add, sub, neg, div, lt, le, eq, fits}
use lib.Ieee.Fits.{up_pos, down_pos}
use lib.Ieee.Exact.{HasValue, round_exact}
use lib.Ieee.Order.{round_mono, transfer}
use lib.Ieee.Bits.{is_true}
use Rattle.doubles.specs.Num.{◌⊕◌, ◌⊖◌, ◌⊘◌, finite, size}
use Rattle.doubles.specs.Words.{Under}
use Rattle.doubles.proofs.Tests.{not_both}
use Rattle.doubles.proofs.Order.{le_means}

-- zero or above, with a clear sign, or +inf
unfoldable pub not_negative : Float → Bool
not_negative nan = false
not_negative (inf s) = not s
not_negative (fin s m e) = not s

-- ---- a difference y - x with x < y isn't negative
odd_sign : (d q k l : ℕ) → not_negative (odd d false q k l) ≡ true
unfolding odd not_negative
odd_sign d zero k l = refl
odd_sign d (suc q) k l = refl

units_sign : (f : Format) (q k : ℕ) → not_negative (units f false q k) ≡ true
unfolding units not_negative
units_sign f q k = go (ltb (q * 2 ^ k) (2 ^ (low f + suc (emax f))))
  where
    go : (t : Bool) → not_negative (cond t (odd (suc (prec f)) false q k (low f)) (inf false)) ≡ true
    go true = odd_sign (suc (prec f)) q k (low f)
    go false = refl

pub round_sign : (f : Format) (a b : ℕ) → not_negative (round f false a b) ≡ true
unfolding round
round_sign f a b = units_sign f _ _

plus_plus : (f : Format) (a b c : ℕ) → not_negative (sum f false a false b c) ≡ true
unfolding sum
plus_plus f a b c = round_sign f (a + b) c

plus_minus : (f : Format) (a b c : ℕ) → ltb a b ≡ false → not_negative (sum f false a true b c) ≡ true
unfolding sum
plus_minus f a b c h = rw h (round_sign f (a - b) c)

minus_plus : (f : Format) (a b c : ℕ) → ltb a b ≡ true → not_negative (sum f true a false b c) ≡ true
unfolding sum
minus_plus f a b c h = rw h (round_sign f (b - a) c)

pub difference_sign : (x y : Float) → lt x y ≡ true → not_negative (y ⊖ x) ≡ true
unfolding lt sub add neg not_negative
difference_sign nan y h = cc
difference_sign (inf s) nan h = cc
difference_sign (inf true) (inf true) h = cc
difference_sign (inf true) (inf false) h = refl
difference_sign (inf false) (inf t) h = cc
difference_sign (inf true) (fin t n d) h = refl
difference_sign (inf false) (fin t n d) h = cc
difference_sign (fin s m e) nan h = cc
difference_sign (fin s m e) (inf true) h = cc
difference_sign (fin s m e) (inf false) h = refl
difference_sign (fin false m e) (fin false n d) h =
    plus_minus binary64 (n * up d * down e) (m * up e * down d) (down d * down e)
    (le-ltb (n * up d * down e) (m * up e * down d) (omega (arith, ltb-true (m * up e * down d) (n * up d * down e) h)))
difference_sign (fin false m e) (fin true n d) h = cc
difference_sign (fin true m e) (fin false n d) h = plus_plus binary64 (n * up d * down e) (m * up e * down d) (down d * down e)
difference_sign (fin true m e) (fin true n d) h = minus_plus binary64 (n * up d * down e) (m * up e * down d) (down d * down e) h

-- ---- a value of the format is rounded to itself
whole_part : (q k l x : ℕ) → q * 2 ^ k < 2 ^ x * 1 → q * 2 ^ (k + l) < 2 ^ (l + x)
whole_part q k l x h = rw (pow-add 2 k l, pow-add 2 l x) (omega (arith, mul-lt-mul_of_pos_right h (pow_pos l)))

below_low : (k l : ℕ) → 2 ^ k ≤ 2 ^ l → k ≤ l
below_low k l h = le_of_suc-le-suc (lt_of_not-le (λ (g : suc l ≤ k). omega (arith, pow-lt g)))

cut : (k l : ℕ) → k ≤ l → 2 ^ l ≡ 2 ^ (l - k) * 2 ^ k
cut k l h = let e : l - k + k ≡ l = omega arith in rw (← pow-add 2 (l - k) k, e)

fraction : (q k l x : ℕ) → k ≤ l → q * 1 < 2 ^ x * 2 ^ k → q * 2 ^ (l - k) < 2 ^ (l + x)
fraction q k l x b h = rw (pow-add 2 l x, cut k l b) (omega (arith, mul-lt-mul_of_pos_right h (pow_pos (l - k))))

four : (a b c d : Bool) → T (a && b && c && d) → T a × T b × T c × T d
four false b c d t = elim t [ ]
four true false c d t = elim t [ ]
four true true false d t = elim t [ ]
four true true true false t = elim t [ ]
four true true true true t = (tt, tt, tt, tt)

-- the digits, the lowest place and the size of a value of the format
pub record Places (f : Format) (m : ℕ) (e : ℤ) : Type 0 where
  pub odd_digits : m % 2 ≡ 1
  pub few_digits : m < 2 ^ prec f
  pub lowest : down e ≤ 2 ^ low f
  pub in_size : m * up e < 2 ^ suc (emax f) * down e

pub places : (f : Format) (m : ℕ) (e : ℤ) → T (fits f (fin false (suc m) e)) → Places f (suc m) e
unfolding fits
places f m e t =
    let p = four (eqb (suc m % 2) 1) (ltb (suc m) (2 ^ prec f)) (leb (down e) (2 ^ low f)) (ltb (suc m * up e) (2 ^ suc (emax f) * down e)) t in
    record { odd_digits = eqb→eq _ _ p.0; few_digits = ltb→lt _ _ p.1; lowest = leb→le _ _ p.2; in_size = ltb→lt _ _ p.3 }

exact : (f : Format) (m : ℕ) (e : ℤ) → T (fits f (fin false m e)) → HasValue (round f false (m * up e) (down e)) false (m * up e) (down e)
exact f zero e t = round_exact f false (0 * up e) (down e) 0 0 (down_pos e) (pow_pos (prec f)) (pow_pos (low f + suc (emax f))) (simp zero-mul)
exact f (suc m) (pos k) t =
    let p = places f m (pos k) t in
    round_exact f false (suc m * 2 ^ k) 1 (suc m) (k + low f) (omega arith) p.few_digits
    (whole_part (suc m) k (low f) (suc (emax f)) p.in_size)
    (rw (pow-add 2 k (low f)) (omega arith))
exact f (suc m) (negsuc k) t =
    let p = places f m (negsuc k) t in
    let b : suc k ≤ low f = below_low (suc k) (low f) p.lowest in
    round_exact f false (suc m * 1) (2 ^ suc k) (suc m) (low f - suc k) (pow_pos (suc k)) p.few_digits
    (fraction (suc m) (suc k) (low f) (suc (emax f)) b p.in_size)
    (rw (cut (suc k) (low f) b) (simp (mul-one, mul_assoc)))

-- ---- a sum of two that aren't negative is at least each of them
from_value : (x : Float) (a c m : ℕ) (e : ℤ) → 0 < c → HasValue x false a c → T (le x (fin false m e)) → a * down e ≤ m * up e * c
unfolding le
from_value nan a c m e C h t = absurd h
from_value (inf s) a c m e C h t = absurd h
from_value (fin true n d) a c m e C h t = absurd (not_both refl h.0)
from_value (fin false n d) a c m e C h t =
    transfer a (m * up e) c (down e) (n * up d) (m * up e) (down d) (down e) (down_pos d) (down_pos e) (sym h.1) refl (le_means _ _ _ (is_true _ t))

grows : (m : ℕ) (e : ℤ) (n : ℕ) (d : ℤ) (k : ℕ) (g : ℤ) → T (fits binary64 (fin false m e)) → fin false m e ⊕ fin false n d ≡ fin false k g → m * up e * down g ≤ k * up g * down e
unfolding add sum
grows m e n d k g t q =
    let a : ℕ = m * up e * down d in
    let b : ℕ = n * up d * down e in
    from_value (round binary64 false (m * up e) (down e)) (m * up e) (down e) k g (down_pos e) (exact binary64 m e t)
    (subst (λ z. T (le (round binary64 false (m * up e) (down e)) z)) q
    (round_mono binary64 (m * up e) (down e) (a + b) (down e * down d) (down_pos e) (mul-pos (down_pos e) (down_pos d)) (omega arith)))

-- ---- and so is its quotient
finite_under : (x y : Float) → not_negative x ≡ true → le x y ≡ true → finite y ≡ true → finite x ≡ true
unfolding not_negative finite le lt eq
finite_under nan y p h f = cc
finite_under (inf true) y p h f = cc
finite_under (inf false) nan p h f = cc
finite_under (inf false) (inf t) p h f = cc
finite_under (inf false) (fin t n d) p h f = cc
finite_under (fin s m e) y p h f = refl

quotients : (m : ℕ) (e : ℤ) (n : ℕ) (d : ℤ) (k : ℕ) (g : ℤ) → m * up e * down d ≤ n * up d * down e
    → finite (round binary64 false (n * up d * down g) (suc k * up g * down d)) ≡ true
    → (finite (round binary64 false (m * up e * down g) (suc k * up g * down e)) ≡ true)
    × (le (round binary64 false (m * up e * down g) (suc k * up g * down e)) (round binary64 false (n * up d * down g) (suc k * up g * down d)) ≡ true)
quotients m e n d k g h f =
    let some : 0 < suc k = omega arith in
    let x = round binary64 false (m * up e * down g) (suc k * up g * down e) in
    let y = round binary64 false (n * up d * down g) (suc k * up g * down d) in
    let below : le x y ≡ true =
    is_true (le x y)
    (round_mono binary64 (m * up e * down g) (suc k * up g * down e) (n * up d * down g) (suc k * up g * down d)
    (mul-pos (mul-pos some (up_pos g)) (down_pos e)) (mul-pos (mul-pos some (up_pos g)) (down_pos d))
    (omega (arith, mul-le-mul_right (down g * (suc k * up g)) h))) in
    (finite_under x y (round_sign binary64 (m * up e * down g) (suc k * up g * down e)) below f, below)

infinite_quotient : (s : Float) → finite (inf false ⊘ size s) ≡ false
unfolding div finite size
infinite_quotient nan = refl
infinite_quotient (inf t) = refl
infinite_quotient (fin t n d) = refl

by_zero : (m : ℕ) (e d : ℤ) → finite (fin false m e ⊘ fin false 0 d) ≡ false
unfolding div finite
by_zero m e d = go (eqb m 0)
  where
    go : (b : Bool) → finite (cond b nan (inf false)) ≡ false
    go true = refl
    go false = refl

by_some : (m : ℕ) (e : ℤ) (k : ℕ) (g : ℤ) → fin false m e ⊘ fin false (suc k) g ≡ round binary64 false (m * up e * down g) (suc k * up g * down e)
unfolding div
by_some m e k g = rw (eqb-suc-zero k)

beside : (m : ℕ) (e : ℤ) (n : ℕ) (d : ℤ) (s : Float) → m * up e * down d ≤ n * up d * down e → finite (fin false n d ⊘ size s) ≡ true
    → (finite (fin false m e ⊘ size s) ≡ true) × (le (fin false m e ⊘ size s) (fin false n d ⊘ size s) ≡ true)
unfolding div size finite le
beside m e n d nan h f = absurd (not_both f refl)
beside m e n d (inf t) h f = (refl, refl)
beside m e n d (fin t zero g) h f = absurd (not_both f (by_zero n d g))
beside m e n d (fin t (suc k) g) h f = rw (by_some m e k g, by_some n d k g) (quotients m e n d k g h (rw (by_some n d k g) at f))

pub under : (l y s : Float) → not_negative l ≡ true → T (fits binary64 l) → not_negative y ≡ true → finite ((l ⊕ y) ⊘ size s) ≡ true → Under l y (size s)
unfolding add not_negative
under nan y s p t q h = absurd (not_both p refl)
under (inf true) y s p t q h = absurd (not_both p refl)
under (inf false) nan s p t q h = absurd (not_both q refl)
under (inf false) (inf true) s p t q h = absurd (not_both q refl)
under (inf false) (inf false) s p t q h = absurd (not_both h (infinite_quotient s))
under (inf false) (fin u n d) s p t q h = absurd (not_both h (infinite_quotient s))
under (fin true m e) y s p t q h = absurd (not_both p refl)
under (fin false m e) nan s p t q h = absurd (not_both q refl)
under (fin false m e) (inf true) s p t q h = absurd (not_both q refl)
under (fin false m e) (inf false) s p t q h = absurd (not_both h (infinite_quotient s))
under (fin false m e) (fin true n d) s p t q h = absurd (not_both q refl)
under (fin false m e) (fin false n d) s p t q h = go (fin false m e ⊕ fin false n d) refl (plus_plus binary64 (m * up e * down d) (n * up d * down e) (down e * down d)) h
  where
    go : (z : Float) → fin false m e ⊕ fin false n d ≡ z → not_negative z ≡ true → finite (z ⊘ size s) ≡ true → Under (fin false m e) (fin false n d) (size s)
    go nan a b f = absurd (not_both b refl)
    go (inf true) a b f = absurd (not_both b refl)
    go (inf false) a b f = absurd (not_both f (infinite_quotient s))
    go (fin true k g) a b f = absurd (not_both b refl)
    go (fin false k g) a b f =
        let r = beside m e k g s (grows m e n d k g t a) f in
        record { first_finite = unfold finite in refl; finite_too = r.0; no_larger = rw a r.1 }
