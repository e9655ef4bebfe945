-- Zeros of either sign: a zero times a finite number is one, so is the difference of two, and each is under EPS in size. Assumes nothing.
use mathlib.Core.Path.{◌≡◌, refl, ◌∙◌}
use mathlib.Core.Bool.{Bool, true, false, not}
use Prim.Native.Nat.{ℕ, ◌*◌, ◌<◌}
use native.Mathlib.Nat.{zero-mul, mul-pos}
use native.Mathlib.Omega.{arith}
use borrow.Author.Tests.{lt-ltb}
use lib.IntN.{ℤ, pos}
use lib.Ieee.{Float, nan, inf, fin, binary64, round, sum, add, sub, mul, neg, lt, up, down, unlike, of_bits}
use lib.Ieee.Fits.{up_pos, down_pos}
use lib.Ieee.Scale.{round_same}
use Rattle.doubles.specs.Num.{◌⊖◌, ◌⊗◌, f0, eps, finite, size as abs}

pub record Zero (x : Float) : Type 0 where
  pub sign : Bool
  pub expo : ℤ
  pub is : x ≡ fin sign 0 expo

pub zero_f0 : Zero f0
unfolding of_bits
zero_f0 = record { sign = false; expo = pos 0; is = refl }

one_zero : (s : Bool) → round binary64 s 0 1 ≡ fin s 0 (pos 0)
unfolding round
one_zero s = refl

round_zero : (s : Bool) (a c : ℕ) → 0 < c → a ≡ 0 → Zero (round binary64 s a c)
round_zero s a c h e = record { sign = s; expo = pos 0; is = round_same binary64 s a c 0 1 h (omega arith) (omega (arith, zero-mul c)) ∙ one_zero s }

bottoms : (e d : ℤ) → 0 < down e * down d
bottoms e d = mul-pos (down_pos e) (down_pos d)

pub zero_times : (x y : Float) → Zero x → finite y ≡ true → Zero (x ⊗ y)
unfolding mul finite
zero_times x nan z h = absurd (let q : ◌≡◌ {A = ℕ} 0 1 = cc in omega arith)
zero_times x (inf t) z h = absurd (let q : ◌≡◌ {A = ℕ} 0 1 = cc in omega arith)
zero_times x (fin t n d) z h =
    let e : ℤ = z.expo in
    rw z.is (round_zero (unlike z.sign t) (0 * up e * (n * up d)) (down e * down d) (bottoms e d) (simp zero-mul))

sum_zero : (s t : Bool) (c : ℕ) → 0 < c → Zero (sum binary64 s 0 t 0 c)
unfolding sum
sum_zero true true c h = round_zero true 0 c h refl
sum_zero true false c h = round_zero false 0 c h refl
sum_zero false true c h = round_zero false 0 c h refl
sum_zero false false c h = round_zero false 0 c h refl

pub zero_less : (x y : Float) → Zero x → Zero y → Zero (x ⊖ y)
unfolding sub add neg
zero_less x y u v = rw (u.is, v.is) (simp zero-mul (sum_zero u.sign (not v.sign) (down u.expo * down v.expo) (bottoms u.expo v.expo)))

zero_under : (e d : ℤ) (m : ℕ) → 0 < m → lt (fin false 0 e) (fin false m d) ≡ true
unfolding lt
zero_under e d m h = simp zero-mul (lt-ltb 0 (m * up d * down e) (mul-pos (mul-pos h (up_pos d)) (down_pos e)))

-- "coefficients under EPS in size are skipped"
pub zero_small : (x : Float) → Zero x → lt (abs x) eps ≡ true
unfolding abs of_bits
zero_small x z = rw z.is (zero_under z.expo _ _ (omega arith))
