-- Doubles from 0 up and below 2 ^ 63, and the two answers of `nearest`. Assumes nothing.
use Rattle.std.proofs.Common.{◌≡◌, ℕ, zero, suc, ◌+◌, ◌*◌, ◌/◌, ◌%◌, ◌^◌, ◌<◌, ◌≤◌, Bool, true, false, ◌&&◌, T, eqb, ltb, leb, ℤ, pos, negsuc, sym, refl, ap, ◌∙◌, subst, le_trans, mul-le-mul_right, div-lt_iff_lt-mul, pow-suc, mul-one, div-one, arith, lit<, lit≤, le→leb, eqb→eq, ltb→lt, lt→ltb, leb→le, pow_pos, ltb-false, ltb-true}
use Prim.Native.Nat.{compare}
use lib.Ieee.{Float, nan, inf, fin, binary64, up, down, add, lt, fits, sub, to_unsigned, in_unsigned, in_float}
use lib.Ieee.Fits.{up_pos, down_pos, nearest-le, and_l, and_r}
use lib.Ieee.Back.{unsigned_back}
use lib.Ieee.Nearest.{closest}
use lib.Ieee.Positive.{num, den}
use Rattle.doubles.specs.Num.{size}
use Rattle.whole_round.specs.Whole.{Nearby}
use Rattle.whole_round.proofs.Closest.{on_whole}
use Rattle.whole_round.proofs.Sum.{exactly}

-- ---- the shape
abbrev pub Part : Float → Type 0
Part nan = ⊥
Part (inf s) = ⊥
Part (fin true m e) = ⊥
Part (fin false m e) = m * up e < 2 ^ 63 * down e

pub part : (a : Float) → a ≡ size a → T (lt a (fin false 1 (pos 63))) → Part a
unfolding lt size
part nan q t = t
part (inf true) q t = let z : ◌≡◌ {A = Bool} true false = cc in subst T z tt
part (inf false) q t = t
part (fin true m e) q t = let z : ◌≡◌ {A = Bool} true false = cc in subst T z tt
part (fin false m e) q t = omega (arith, ltb→lt (m * up e * 1) (1 * 2 ^ 63 * down e) t)

-- ---- the whole part
pub asks : (a : Float) → Part a → T (lt (fin true 1 (pos 0)) a) × T (lt a (fin false 1 (pos 64)))
unfolding lt
asks nan h = elim h [ ]
asks (inf _) h = elim h [ ]
asks (fin true m e) h = elim h [ ]
asks (fin false m e) h =
    (lt→ltb 0 (1 * 1 * down e + m * up e * 1) (omega (arith, down_pos e)), lt→ltb (m * up e * 1) (1 * 2 ^ 64 * down e) (omega arith))

pub cut : (a : Float) → Part a → (to_unsigned 64 a ≡ num a / den a) × (num a / den a < 2 ^ 63)
unfolding to_unsigned
cut nan h = elim h [ ]
cut (inf _) h = elim h [ ]
cut (fin true m e) h = elim h [ ]
cut (fin false m e) h = let l : m * up e / down e < 2 ^ 63 = (div-lt_iff_lt-mul (down_pos e)).1 h in (omega arith, l)

-- ---- from 2 ^ 52 on there is no fraction
-- what a double's m and e keep to
pub digits : (s : Bool) (m : ℕ) (e : ℤ) → T (fits binary64 (fin s m e)) → (m < 2 ^ 53) × (down e ≤ 2 ^ 1074)
unfolding fits
digits s zero e f =
    (lit< tt, le_trans (omega (arith, mul-le-mul_right (down e) (up_pos e), eqb→eq (up e * down e) 1 f)) (lit≤ {m = 1} tt))
digits s (suc m) e f =
    let a = and_l (eqb (suc m % 2) 1 && ltb (suc m) (2 ^ 53) && leb (down e) (2 ^ 1074)) (ltb (suc m * up e) (2 ^ 1024 * down e)) f in
    let b = and_l (eqb (suc m % 2) 1 && ltb (suc m) (2 ^ 53)) (leb (down e) (2 ^ 1074)) a in
    (ltb→lt (suc m) (2 ^ 53) (and_r (eqb (suc m % 2) 1) (ltb (suc m) (2 ^ 53)) b), leb→le (down e) (2 ^ 1074) (and_r (eqb (suc m % 2) 1 && ltb (suc m) (2 ^ 53)) (leb (down e) (2 ^ 1074)) a))

pub no_fraction : (a : Float) → Part a → T (fits binary64 a) → lt a (fin false 1 (pos 52)) ≡ false
    → closest (num a) (den a) ≡ num a / den a
unfolding lt
no_fraction nan p f t = elim p [ ]
no_fraction (inf _) p f t = elim p [ ]
no_fraction (fin true m _) p f t = elim p [ ]
no_fraction (fin false m (pos k)) p f t =
    ap (λ (n : ℕ). closest n 1) (sym (mul-one (m * 2 ^ k)))
    ∙ on_whole (m * 2 ^ k) 1 (lit≤ tt)
    ∙ sym (div-one (m * 2 ^ k))
no_fraction (fin false m (negsuc k)) p f t =
    absurd
    (omega (arith, ltb-false (m * 1 * 1) (1 * 2 ^ 52 * 2 ^ suc k) t, pow_pos k, pow-suc 2 k, (digits false m (negsuc k) f).0))

-- ---- the answers of `nearest`
abbrev p52 : Float
p52 = fin false 1 (pos 52)

abbrev rounded : Float → Float
rounded a = sub binary64 (add binary64 a p52) p52

pub record Small (a : Float) : Type 0 where
  pub fits : T (in_unsigned binary64 64 (rounded a))
  pub near : Nearby a (to_unsigned 64 (rounded a))

pub small : (a : Float) → Part a → lt a p52 ≡ true → Small a
unfolding lt in_float
small nan p t = elim p [ ]
small (inf _) p t = elim p [ ]
small (fin true m e) p t = elim p [ ]
small (fin false m e) p t =
    let l : m * up e < 2 ^ 52 * down e = omega (arith, ltb-true (m * up e * 1) (1 * 2 ^ 52 * down e) t) in
    let c : ℕ = closest (m * up e) (down e) in
    let few : m * up e / down e < 2 ^ 52 = (div-lt_iff_lt-mul (down_pos e)).1 l in
    let h : c ≤ 2 ^ 52 = omega (arith, nearest-le (m * up e / down e) (compare (m * up e % down e * 2) (down e))) in
    let b = unsigned_back binary64 64 c (le→leb c (2 ^ 53) (omega arith)) (omega arith) in
    record { fits = rw (exactly m e l) b.0; near = rw (exactly m e l, b.1) (record { is = refl; small = omega arith }) }

pub large : (a : Float) (q : ℕ) → Part a → T (fits binary64 a) → lt a p52 ≡ false → q ≡ to_unsigned 64 a → Nearby a q
large a q p f t r = record { is = r ∙ (cut a p).0 ∙ sym (no_fraction a p f t); small = omega (arith, cut a p) }
