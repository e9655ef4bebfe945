-- How large doubles can grow. `Within n x`: x is finite, and n at most in size. Rounding keeps within any bound that is
-- a double itself, so sums and products of what is bounded are bounded, and finite: no rounding error has to be
-- followed. Assumes nothing.
use mathlib.Core.Path.{◌≡◌, refl, sym}
use mathlib.Core.Bool.{Bool, true, false, not, ◌&&◌, ◌||◌, beq, cond}
use mathlib.Core.Logic.{◌↔◌, ◌⊎◌, inl, inr}
use Prim.Native.Nat.{ℕ, zero, suc, ◌+◌, ◌-◌, ◌*◌, ◌^◌, ◌<◌, ◌≤◌}
use native.Mathlib.Nat.{mul-pos, mul-one, mul_assoc, mul-le-mul, mul-le-mul_right, lt_of_lt_of_le, lt_of_not-le, le_trans, le_refl}
use native.Mathlib.Omega.{arith}
use borrow.Author.Tests.{eqb-true}
use lib.Dec.{ltb}
use lib.Pow.{pow-add, pow_mono, shl_lt}
use lib.IntN.{ℤ}
use lib.Ieee.{Float, nan, inf, fin, Format, binary64, prec, emax, low, up, down, odd, units, round, sum, add, sub, mul, neg, le, eq, is_nan, unlike, of_bits}
use lib.Ieee.Fits.{down_pos}
use lib.Ieee.Exact.{HasValue, round_exact}
use lib.Ieee.Order.{round_mono}
use lib.Ieee.Positive.{num, den, through}
use lib.Ieee.Bits.{is_true}
use Rattle.doubles.specs.Num.{◌⊕◌, ◌⊖◌, ◌⊗◌, f0, f1, max_number, finite, infinite, size}
use Rattle.doubles.specs.Loop.{run}
use Rattle.doubles.specs.Words.{Within, Above}
use Rattle.doubles.proofs.Loops.{keeps, both_true}
use Rattle.doubles.proofs.Tests.{not_both, false_by}
use Rattle.doubles.proofs.Bools.{never}
use Rattle.doubles.proofs.Order.{le_means, le_by}
use Rattle.doubles.proofs.Quotients.{not_negative, round_sign}

-- a whole number that is a double: at most 53 digits, and a power of two
pub record Double (n : ℕ) : Type 0 where
  pub digits : ℕ
  pub places : ℕ
  pub digits_fit : digits < 2 ^ 53
  pub places_fit : places ≤ 971
  pub is : n ≡ digits * 2 ^ places

pub double : (q j : ℕ) → q < 2 ^ 53 → j ≤ 971 → Double (q * 2 ^ j)
double q j h g = record { digits = q; places = j; digits_fit = h; places_fit = g; is = refl }

pub weaker : {a b : ℕ} {x : Float} → a ≤ b → Within a x → Within b x
weaker {x = x} h w = record { is_finite = w.is_finite; most = le_trans w.most (mul-le-mul_right (den x) h) }

pub zero_within : {n : ℕ} → Within n f0
unfolding of_bits finite
zero_within = record { is_finite = refl; most = omega arith }

pub one_within : Within 1 f1
unfolding of_bits finite
one_within = record { is_finite = refl; most = omega arith }

-- ---- rounding

-- a bound that is a double is rounded to itself
itself : (f : Format) (q j : ℕ) → q < 2 ^ prec f → prec f + j ≤ suc (emax f) → HasValue (round f false (q * 2 ^ j) 1) false (q * 2 ^ j) 1
itself f q j h g =
    round_exact f false (q * 2 ^ j) 1 q (j + low f) (omega arith) h
    (lt_of_lt_of_le (shl_lt (prec f) (j + low f) h) (pow_mono (omega arith)))
    (rw (pow-add 2 j (low f)) (simp (mul-one, mul_assoc)))

value_within : (n : ℕ) (y : Float) → HasValue y false n 1 → Within n y
unfolding finite
value_within n nan h = absurd h
value_within n (inf u) h = absurd h
value_within n (fin u k d) h = record { is_finite = refl; most = omega (arith, h.1) }

-- what isn't negative and is no larger than something within it
capped : {n : ℕ} (x y : Float) → not_negative x ≡ true → le x y ≡ true → Within n y → Within n x
unfolding le not_negative finite
capped nan y p h w = absurd (not_both p refl)
capped (inf true) y p h w = absurd (not_both p refl)
capped (inf false) nan p h w = absurd (not_both h refl)
capped (inf false) (inf u) p h w = absurd (not_both w.is_finite refl)
capped (inf false) (fin u k d) p h w = absurd (not_both h refl)
capped (fin true m e) y p h w = absurd (not_both p refl)
capped (fin false m e) nan p h w = absurd (not_both h refl)
capped (fin false m e) (inf u) p h w = absurd (not_both w.is_finite refl)
capped {n} (fin false m e) (fin u k d) p h w =
    let l = through (m * up e) (k * up d) n (down e) (down d) 1 (down_pos d) (at_most u h) (omega (arith, w.most)) in
    record { is_finite = refl; most = omega (arith, l) }
  where
    at_most : (u : Bool) → le (fin false m e) (fin u k d) ≡ true → m * up e * down d ≤ k * up d * down e
    at_most false q = le_means _ _ _ q
    at_most true q = omega (arith, eqb-true (m * up e * down d) (k * up d * down e) (both_true _ _ q).0)

pub sized : {n : ℕ} (x y : Float) → le (size x) y ≡ true → Within n y → Within n x
unfolding le size finite not_negative
sized nan y h w = absurd (not_both h refl)
sized (inf s) y h w = let v = capped (inf false) y refl h w in absurd (not_both v.is_finite refl)
sized (fin s m e) y h w = let v = capped (fin false m e) y refl h w in record { is_finite = refl; most = v.most }

-- the sign is no matter
odd_either : (n d : ℕ) (s : Bool) (q k l : ℕ) → Within n (odd d false q k l) → Within n (odd d s q k l)
unfolding odd finite
odd_either n d s zero k l w = record { is_finite = refl; most = w.most }
odd_either n d s (suc q) k l w = record { is_finite = refl; most = w.most }

units_either : (n : ℕ) (f : Format) (s : Bool) (q k : ℕ) → Within n (units f false q k) → Within n (units f s q k)
unfolding units finite
units_either n f s q k = go (ltb (q * 2 ^ k) (2 ^ (low f + suc (emax f))))
  where
    go : (t : Bool) → Within n (cond t (odd (suc (prec f)) false q k (low f)) (inf false)) → Within n (cond t (odd (suc (prec f)) s q k (low f)) (inf s))
    go true w = odd_either n (suc (prec f)) s q k (low f) w
    go false w = absurd (not_both w.is_finite refl)

round_either : (n : ℕ) (f : Format) (s : Bool) (a c : ℕ) → Within n (round f false a c) → Within n (round f s a c)
unfolding round
round_either n f s a c w = units_either n f s _ _ w

-- a fraction within a bound that is a double is rounded within it
pub rounded : {n : ℕ} → Double n → (s : Bool) (a c : ℕ) → 0 < c → a ≤ n * c → Within n (round binary64 s a c)
rounded {n} d s a c C h =
    let exact : HasValue (round binary64 false n 1) false n 1 = rw d.is (itself binary64 d.digits d.places d.digits_fit (omega (arith, d.places_fit))) in
    round_either n binary64 s a c
    (capped (round binary64 false a c) (round binary64 false n 1) (round_sign binary64 a c)
    (is_true _ (round_mono binary64 a c n 1 C (omega arith) (omega arith))) (value_within n _ exact))

-- ---- products, sums and differences
pub product : {a b : ℕ} {x y : Float} → Double (a * b) → Within a x → Within b y → Within (a * b) (x ⊗ y)
unfolding mul finite
product {x = nan} d v w = absurd (not_both v.is_finite refl)
product {x = inf s} d v w = absurd (not_both v.is_finite refl)
product {x = fin s m e} {y = nan} d v w = absurd (not_both w.is_finite refl)
product {x = fin s m e} {y = inf t} d v w = absurd (not_both w.is_finite refl)
product {a} {b} {x = fin s m e} {y = fin t k g} d v w =
    rounded d (unlike s t) (m * up e * (k * up g)) (down e * down g) (mul-pos (down_pos e) (down_pos g)) (omega (arith, mul-le-mul v.most w.most))

either_sign : {n : ℕ} → Double n → (s t : Bool) (a b c : ℕ) → 0 < c → a + b ≤ n * c → Within n (sum binary64 s a t b c)
unfolding sum
either_sign {n} d s t a b c C h = go (beq s t) (ltb a b)
  where
    go : (p q : Bool) → Within n (cond p (round binary64 s (a + b) c) (cond q (round binary64 t (b - a) c) (round binary64 (s && ltb b a) (a - b) c)))
    go true q = rounded d s (a + b) c C h
    go false true = rounded d t (b - a) c C (omega arith)
    go false false = rounded d (s && ltb b a) (a - b) c C (omega arith)

pub plus : {a b : ℕ} {x y : Float} → Double (a + b) → Within a x → Within b y → Within (a + b) (x ⊕ y)
unfolding add finite
plus {x = nan} d v w = absurd (not_both v.is_finite refl)
plus {x = inf s} d v w = absurd (not_both v.is_finite refl)
plus {x = fin s m e} {y = nan} d v w = absurd (not_both w.is_finite refl)
plus {x = fin s m e} {y = inf t} d v w = absurd (not_both w.is_finite refl)
plus {a} {b} {x = fin s m e} {y = fin t k g} d v w =
    either_sign d s t (m * up e * down g) (k * up g * down e) (down e * down g) (mul-pos (down_pos e) (down_pos g))
    (omega (arith, mul-le-mul_right (down g) v.most, mul-le-mul_right (down e) w.most))

pub negated : {n : ℕ} {x : Float} → Within n x → Within n (neg x)
unfolding neg finite
negated {x = nan} w = absurd (not_both w.is_finite refl)
negated {x = inf s} w = absurd (not_both w.is_finite refl)
negated {x = fin s m e} w = record { is_finite = refl; most = w.most }

pub minus : {a b : ℕ} {x y : Float} → Double (a + b) → Within a x → Within b y → Within (a + b) (x ⊖ y)
unfolding sub
minus d v w = plus d v (negated w)

-- ---- sums of many, each within 2 ^ j: k of them are within k * 2 ^ j
module _ (j : ℕ) (few : j ≤ 971) where
  pub one_more : (k : ℕ) {x y : Float} → k + 1 < 2 ^ 53 → Within (k * 2 ^ j) x → Within (2 ^ j) y → Within ((k + 1) * 2 ^ j) (x ⊕ y)
  one_more k h v w =
      let q : (k + 1) * 2 ^ j ≡ k * 2 ^ j + 2 ^ j = omega arith in
      rw q (plus (rw q at (double (k + 1) j h few)) v w)

  pub total : (term : ℕ → Float) (n : ℕ) → n < 2 ^ 53 → ((k : ℕ) → k < n → Within (2 ^ j) (term k)) → Within (n * 2 ^ j) (run (λ k t. t ⊕ term k) n f0)
  total term n h each =
      keeps (λ k t. t ⊕ term k) f0 (λ k t. Within (k * 2 ^ j) t) n (λ k t l w. one_more k (omega arith) w (each k l)) zero_within n (le_refl n)

-- ---- 1e12
max_within : Within (10 ^ 12) max_number
unfolding of_bits finite
max_within = record { is_finite = refl; most = omega arith }

reaches : (x : Float) → Within (10 ^ 12) x → le (size x) max_number ≡ true
unfolding le size finite of_bits
reaches nan w = never w.is_finite refl
reaches (inf s) w = never w.is_finite refl
reaches (fin s m e) w = le_by (m * up e * 1) (244140625 * 2 ^ 12 * down e) (omega (arith, w.most))

-- the constant is 10 ^ 12
pub max_exactly : (x : Float) → (le (size x) max_number ≡ true) ↔ Within (10 ^ 12) x
max_exactly x = (λ h. sized x max_number h max_within, λ w. reaches x w)

-- ---- what the tests of a number and of a bound say where they fail
above : (s : Bool) (m : ℕ) (e : ℤ) → (le (size (fin s m e)) max_number ≡ false) ↔ Above (10 ^ 12) (fin s m e)
unfolding finite
above s m e =
    let x = fin s m e in (
      λ f.
          let l : 10 ^ 12 * den x < num x = lt_of_not-le (λ h. never (reaches x (record { is_finite = refl; most = h })) f) in
          record { is_finite = refl; more = omega (arith, l) },
      λ a. false_by (λ t. omega (arith, a.more, ((max_exactly x).0 t).most)),
    )

infinite_fails : (s : Bool) → le (size (inf s)) max_number ≡ false
unfolding finite
infinite_fails s = false_by (λ t. not_both ((max_exactly (inf s)).0 t).is_finite refl)

third : {A B C : Type 0} → ¬ A → ¬ B → A ⊎ B ⊎ C → C
third a b (inl x) = absurd (a x)
third a b (inr (inl x)) = absurd (b x)
third a b (inr (inr x)) = x

pub number_fails : (x : Float) → (le (size x) max_number ≡ false) ↔ ((is_nan x ≡ true) ⊎ (infinite x ≡ true) ⊎ Above (10 ^ 12) x)
unfolding infinite is_nan size le
number_fails nan = (λ _. inl refl, λ _. refl)
number_fails (inf s) = (λ _. inr (inl refl), λ _. infinite_fails s)
number_fails (fin s m e) = (λ f. inr (inr ((above s m e).0 f)), λ o. (above s m e).1 (third (λ q. not_both q refl) (λ q. not_both q refl) o))

unlike_inf : inf true ≡ inf false → ⊥
unlike_inf q = let z : ◌≡◌ {A = ℕ} 0 1 = cc in omega arith

apart : {s t : Bool} {m : ℕ} {e : ℤ} → fin t m e ≡ inf s → ⊥
apart q = let z : ◌≡◌ {A = ℕ} 0 1 = cc in omega arith

-- a bound may be the infinity of the sign s
pub bound_fails : (s : Bool) (x : Float) → (eq x (inf s) || le (size x) max_number ≡ false) ↔ ((is_nan x ≡ true) ⊎ (x ≡ inf (not s)) ⊎ Above (10 ^ 12) x)
unfolding is_nan size le eq finite
bound_fails s nan = (λ _. inl refl, λ _. refl)
bound_fails true (inf true) = (λ q. never refl q, λ o. never (third (λ q. not_both q refl) (λ q. unlike_inf q) o).is_finite refl)
bound_fails true (inf false) = (λ _. inr (inl refl), λ _. infinite_fails false)
bound_fails false (inf true) = (λ _. inr (inl refl), λ _. infinite_fails true)
bound_fails false (inf false) = (λ q. never refl q, λ o. never (third (λ q. not_both q refl) (λ q. unlike_inf (sym q)) o).is_finite refl)
bound_fails s (fin t m e) = (λ f. inr (inr ((above t m e).0 f)), λ o. (above t m e).1 (third (λ q. not_both q refl) (λ q. apart q) o))
