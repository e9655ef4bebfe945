-- The comparisons with an infinity and with zero, by cases.
use mathlib.Core.Path.{◌≡◌, refl, sym}
use mathlib.Core.Bool.{Bool, true, false, ◌&&◌, true≢false}
use mathlib.Core.Logic.{◌↔◌}
use Prim.Native.Nat.{ℕ, zero, suc, ◌+◌, ◌*◌, ◌^◌, ◌<◌}
use native.Mathlib.Nat.{zero-mul, mul-pos, pow-suc}
use native.Mathlib.Omega.{arith}
use borrow.Author.Tests.{eq-eqb, ltb-false, eqb-true}
use lib.Dec.{T, eqb, eqb→eq}
use lib.Pow.{pow_pos}
use lib.IntN.{pos, negsuc}
use lib.Ieee.{Float, nan, inf, fin, binary64, neg, lt, eq, ne, is_nan, fits, up, down}
use lib.Ieee.Fits.{up_pos, down_pos}
use Rattle.doubles.specs.Num.{finite, infinite, larger, size}

pub below_infinity : (x : Float) → lt (neg (inf false)) x ≡ true → lt x (inf false) ≡ finite x
unfolding lt neg finite infinite size
below_infinity nan h = refl
below_infinity (inf true) h = cc
below_infinity (inf false) h = refl
below_infinity (fin s m e) h = refl

pub not_above : (x : Float) → lt (neg (inf false)) x ≡ false → false ≡ finite x
unfolding lt neg finite infinite size
not_above nan h = refl
not_above (inf s) h = refl
not_above (fin s m e) h = cc

pub is_inf : (x : Float) → eq x (inf false) ≡ true → true ≡ infinite x
unfolding eq infinite
is_inf nan h = cc
is_inf (inf s) h = refl
is_inf (fin s m e) h = cc

pub is_minus_inf : (x : Float) → eq x (inf false) ≡ false → eq x (neg (inf false)) ≡ infinite x
unfolding eq neg infinite
is_minus_inf nan h = refl
is_minus_inf (inf true) h = refl
is_minus_inf (inf false) h = cc
is_minus_inf (fin s m e) h = refl

and_left : (p q : Bool) → p && q ≡ true → p ≡ true
and_left true q h = refl
and_left false q h = h

both : (a b : ℕ) → a ≡ 0 → b ≡ 0 → eqb a b && eqb a 0 ≡ false → ⊥
both a b p q h = let r : ◌≡◌ {A = Bool} true false = rw (p, q) at h in let n : ◌≡◌ {A = ℕ} 0 1 = cc in omega arith

pub differs : (x : Float) → ne x x ≡ is_nan x
unfolding is_nan ne
differs nan = refl
differs (inf true) = refl
differs (inf false) = refl
differs (fin true m e) = rw (eq-eqb (m * up e * down e) (m * up e * down e) refl)
differs (fin false m e) = rw (eq-eqb (m * up e * down e) (m * up e * down e) refl)

-- 0.0
abbrev z : Float
z = fin false 0 (pos 0)

size_neg : (x : Float) → lt x (neg x) ≡ true → neg x ≡ size x
unfolding lt neg size
size_neg nan h = cc
size_neg (inf true) h = refl
size_neg (inf false) h = cc
size_neg (fin true m e) h = refl
size_neg (fin false m e) h = cc

pub size_zero : (x : Float) → T (fits binary64 x) → eq x z ≡ true → z ≡ size x
unfolding eq fits size
size_zero nan f h = cc
size_zero (inf s) f h = cc
size_zero (fin s zero (pos zero)) f h = refl
size_zero (fin s zero (pos (suc k))) f h = absurd (omega (arith, eqb→eq (2 ^ suc k * 1) 1 f, pow-suc 2 k, pow_pos k))
size_zero (fin s zero (negsuc k)) f h = absurd (omega (arith, eqb→eq (1 * 2 ^ suc k) 1 f, pow-suc 2 k, pow_pos k))
size_zero (fin s (suc m) e) f h =
    let some : 0 < suc m = omega arith in
    absurd (omega (arith, eqb-true (suc m * up e * 1) (0 * 1 * down e) (and_left _ _ h), zero-mul (down e), mul-pos some (up_pos e)))

size_pos : (x : Float) → lt x (neg x) ≡ false → eq x z ≡ false → x ≡ size x
unfolding lt eq neg size
size_pos nan h g = refl
size_pos (inf true) h g = cc
size_pos (inf false) h g = refl
size_pos (fin false m e) h g = refl
size_pos (fin true zero e) h g = absurd (both (0 * up e * 1) (0 * 1 * down e) (omega (arith, zero-mul (up e))) (zero-mul (down e)) g)
size_pos (fin true (suc m) e) h g =
    let a : ℕ = suc m * up e * down e in
    let some : 0 < suc m = omega arith in
    absurd (omega (arith, ltb-false 0 (a + a) h, mul-pos (mul-pos some (up_pos e)) (down_pos e)))

-- the larger of x and its negative
pub size_larger : (x : Float) → eq x z ≡ false → larger x (neg x) ≡ size x
unfolding larger
size_larger x g = go (lt x (neg x)) refl
  where
    go : (b : Bool) → lt x (neg x) ≡ b → elim b [ true ↦ neg x | false ↦ x ] ≡ size x
    go true h = size_neg x h
    go false h = size_pos x h g

pub equals_inf : (s : Bool) (x : Float) → (eq x (inf s) ≡ true) ↔ (x ≡ inf s)
unfolding eq
equals_inf s nan = (λ h. absurd (true≢false (sym h)), λ q. cc)
equals_inf true (inf true) = (λ _. refl, λ _. refl)
equals_inf true (inf false) = (λ h. cc, λ q. cc)
equals_inf false (inf true) = (λ h. cc, λ q. cc)
equals_inf false (inf false) = (λ _. refl, λ _. refl)
equals_inf s (fin t m e) = (λ h. absurd (true≢false (sym h)), λ q. cc)
