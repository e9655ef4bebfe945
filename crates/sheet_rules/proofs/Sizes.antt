-- Sizes: nat_abs of sums, differences, products and terms. Assumes nothing.
use mathlib.Core.Path.{◌≡◌, refl}
use mathlib.Core.Logic.{⊎_elim}
use mathlib.Core.Bool.{Bool, true, false}
use Prim.Native.Nat.{ℕ, zero, suc, ◌+◌, ◌*◌, ◌≤◌, ◌<◌}
use native.Mathlib.Nat.{le_trans, mul-le-mul_left, mul-le-mul_right, suc-mul}
use native.Mathlib.Omega.{arith}
use lib.IntN.{ℤ, pos, negsuc, neg_ℤ, nat_abs, sub_ℕ, ◌+ℤ◌, ◌-ℤ◌, ◌*ℤ◌}
use lib.Signed.{lt_z}
use Rattle.doubles.specs.Loop.{run}
use Rattle.sheet_rules.specs.Sum.{sum, bit}
use Rattle.sheet_rules.specs.Sheet.{present, term_by, term}
use Rattle.sheet_rules.proofs.Ring.{sub_lt, sub_ge, lt_or_ge}

pub abs_neg : (z : ℤ) → nat_abs (neg_ℤ z) ≡ nat_abs z
abs_neg (pos zero) = refl
abs_neg (pos (suc n)) = refl
abs_neg (negsuc n) = refl

abs_sub : (a b : ℕ) → nat_abs (sub_ℕ a b) ≤ a + b
abs_sub a b = ⊎_elim (λ h. rw (sub_lt a b h) (omega arith)) (λ h. rw (sub_ge a b h) (omega arith)) (lt_or_ge a b)

pub abs_add : (a b : ℤ) → nat_abs (a +ℤ b) ≤ nat_abs a + nat_abs b
abs_add (pos a) (pos b) = omega arith
abs_add (pos a) (negsuc b) = abs_sub a (suc b)
abs_add (negsuc a) (pos b) = omega (arith, abs_sub b (suc a))
abs_add (negsuc a) (negsuc b) = omega arith

pub abs_mul : (a b : ℤ) → nat_abs (a *ℤ b) ≡ nat_abs a * nat_abs b
abs_mul (pos a) (pos b) = refl
abs_mul (pos a) (negsuc b) = abs_neg (pos (a * suc b))
abs_mul (negsuc a) (pos b) = abs_neg (pos (suc a * b))
abs_mul (negsuc a) (negsuc b) = refl

pub mul_size : (a b : ℤ) (m n : ℕ) → nat_abs a ≤ m → nat_abs b ≤ n → nat_abs (a *ℤ b) ≤ m * n
mul_size a b m n h k = rw (abs_mul a b) (le_trans (mul-le-mul_left (nat_abs a) k) (mul-le-mul_right n h))

pub sum_size : (M n : ℕ) (f : ℕ → ℤ) → ((j : ℕ) → j < n → nat_abs (f j) ≤ M) → nat_abs (sum n f) ≤ n * M
unfolding sum run
sum_size M zero f h = omega arith
sum_size M (suc n) f h = omega (arith, abs_add (sum n f) (f n), sum_size M n f (λ j l. h j (omega arith)), h n (omega arith), suc-mul n M)

-- a sum of at most N terms, each at most M in size
pub up_to : (N M n : ℕ) (f : ℕ → ℤ) → n ≤ N → ((j : ℕ) → j < n → nat_abs (f j) ≤ M) → nat_abs (sum n f) ≤ N * M
up_to N M n f l h = le_trans (sum_size M n f h) (mul-le-mul_right M l)

pub sub_size : (a b : ℤ) (m n : ℕ) → nat_abs a ≤ m → nat_abs b ≤ n → nat_abs (a -ℤ b) ≤ m + n
sub_size a b m n h k = omega (arith, abs_add a (neg_ℤ b), abs_neg b)

pub bit_size : (t : Bool) → nat_abs (bit t) ≤ 1
unfolding bit
bit_size true = omega arith
bit_size false = omega arith

-- a column's term of B
pub term_size : (P Q : ℕ) (d l u : ℤ) (lm um : ℕ) → nat_abs d ≤ P → nat_abs l ≤ Q → nat_abs u ≤ Q → nat_abs (term d l u lm um) ≤ P * Q
unfolding term term_by
term_size P Q d l u lm um hd hl hu = by (lt_z (pos 0) d) (lt_z d (pos 0)) (present lm) (present um)
  where
    by : (above below low high : Bool) → nat_abs (term_by above below low high d l u) ≤ P * Q
    by true below true high = mul_size d l P Q hd hl
    by true below false high = omega arith
    by false true low true = mul_size d u P Q hd hu
    by false true low false = omega arith
    by false false low high = omega arith
