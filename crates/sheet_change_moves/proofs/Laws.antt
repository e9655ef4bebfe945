-- How far a column's term of B moves when its price moves: never more than the price's change times the larger bound. Assumes nothing.
use mathlib.Core.Path.{◌≡◌, refl, sym, ap, ◌∙◌, subst}
use mathlib.Core.Bool.{Bool, true, false}
use Prim.Native.Nat.{ℕ, zero, suc, ◌+◌, ◌*◌, ◌≤◌}
use native.Mathlib.Nat.{add-zero, le_trans, le_refl, mul-le-mul_right, add-mul as add-mulN}
use native.Mathlib.Omega.{arith}
use lib.Dec.{leb→le}
use lib.IntN.{ℤ, pos, negsuc, neg_ℤ, nat_abs, ◌+ℤ◌, ◌-ℤ◌, ◌*ℤ◌, zero-*ℤ, *ℤ-zero, +ℤ_invr, +ℤ_idl, +ℤ_idr}
use lib.Signed.{lt_z}
use borrow.Author.Tests.{lt-ltb}
use Rattle.doubles.specs.Limits.{max_columns}
use Rattle.sheet_rules.specs.Sum.{bit}
use Rattle.sheet_rules.specs.Words.{Count}
use Rattle.sheet_rules.specs.Sheet.{present, term_by, term}
use Rattle.sheet_rules.proofs.Ring.{change_times, add_right_comm}
use Rattle.sheet_rules.specs.Verdict.{is_zero}
use Rattle.sheet_rules.proofs.Tests.{zero_decides}
use Rattle.sheet_rules.proofs.Sizes.{abs_neg, mul_size, sub_size, bit_size}

-- a bound, or 0 where it is absent
abbrev taken : Bool → ℤ → ℤ
taken true l = l
taken false l = pos 0

taken_size : (b : Bool) (l : ℤ) (Q : ℕ) → nat_abs l ≤ Q → nat_abs (taken b l) ≤ Q
taken_size true l Q h = h
taken_size false l Q h = omega arith

module _ (l u : ℤ) (lm um : ℕ) where
  -- at a price that is not negative, and at one that is
  up_is : (n : ℕ) → term (pos n) l u lm um ≡ pos n *ℤ taken (present lm) l
  unfolding term term_by
  up_is zero = sym (zero-*ℤ (taken (present lm) l))
  up_is (suc n) = rw (lt-ltb 0 (suc n) (omega arith)) (by (lt_z (pos (suc n)) (pos 0)) (present lm))
    where
      by : (t b : Bool) → term_by true t b (present um) (pos (suc n)) l u ≡ pos (suc n) *ℤ taken b l
      by t true = refl
      by t false = sym (*ℤ-zero (pos (suc n)))

  down_is : (n : ℕ) → term (negsuc n) l u lm um ≡ negsuc n *ℤ taken (present um) u
  unfolding term term_by
  down_is n = by (present um)
    where
      by : (b : Bool) → term_by false true (present lm) b (negsuc n) l u ≡ negsuc n *ℤ taken b u
      by true = refl
      by false = sym (*ℤ-zero (negsuc n))

-- prices on two sides of 0 are as far apart as they are large
apart : (n m : ℕ) → nat_abs (negsuc m -ℤ pos n) ≡ suc m + n
apart zero m = ap nat_abs (+ℤ_idr (negsuc m)) ∙ sym (add-zero (suc m))
apart (suc n) m = omega arith

two_sides : (n m P Q : ℕ) (L U : ℤ) → n + m ≤ P → nat_abs L ≤ Q → nat_abs U ≤ Q → (y z : ℤ) → nat_abs y ≡ n → nat_abs z ≡ m → nat_abs (y *ℤ L -ℤ z *ℤ U) ≤ P * Q
two_sides n m P Q L U h hL hU y z ey ez =
    le_trans
    (sub_size (y *ℤ L) (z *ℤ U) (n * Q) (m * Q) (mul_size y L n Q (rw ey (le_refl n)) hL) (mul_size z U m Q (rw ez (le_refl m)) hU))
    (subst (λ (k : ℕ). k ≤ P * Q) (add-mulN n m Q) (mul-le-mul_right Q h))

module _ (l u : ℤ) (lm um P Q : ℕ) (hl : nat_abs l ≤ Q) (hu : nat_abs u ≤ Q) where
  pub change_size : (d w : ℤ) → nat_abs (d -ℤ w) ≤ P → nat_abs (term d l u lm um -ℤ term w l u lm um) ≤ P * Q
  change_size (pos n) (pos m) h = rw (up_is l u lm um n, up_is l u lm um m, change_times (taken (present lm) l) (pos n) (pos m)) (mul_size (pos n -ℤ pos m) (taken (present lm) l) P Q h (taken_size (present lm) l Q hl))
  change_size (negsuc n) (negsuc m) h = rw (down_is l u lm um n, down_is l u lm um m, change_times (taken (present um) u) (negsuc n) (negsuc m)) (mul_size (negsuc n -ℤ negsuc m) (taken (present um) u) P Q h (taken_size (present um) u Q hu))
  change_size (pos n) (negsuc m) h = rw (up_is l u lm um n, down_is l u lm um m) (two_sides n (suc m) P Q (taken (present lm) l) (taken (present um) u) h (taken_size (present lm) l Q hl) (taken_size (present um) u Q hu) (pos n) (negsuc m) refl refl)
  change_size (negsuc m) (pos n) h = rw (up_is l u lm um n, down_is l u lm um m) (two_sides (suc m) n P Q (taken (present um) u) (taken (present lm) l) (rw (← apart n m) h) (taken_size (present um) u Q hu) (taken_size (present lm) l Q hl) (negsuc m) (pos n) refl refl)

  -- the same of a price that falls by t
  pub fall_size : (d t : ℤ) → nat_abs t ≤ P → nat_abs (term (d -ℤ t) l u lm um -ℤ term d l u lm um) ≤ P * Q
  fall_size d t h = change_size (d -ℤ t) d (rw (back d t, abs_neg t) h)
    where
      back : (d t : ℤ) → d -ℤ t -ℤ d ≡ neg_ℤ t
      back d t = add_right_comm d (neg_ℤ t) (neg_ℤ d) ∙ ap (λ (z : ℤ). z +ℤ neg_ℤ t) (+ℤ_invr d) ∙ +ℤ_idl (neg_ℤ t)

-- where the coefficient is 0, the price stays
pub no_fall : (a b d : ℤ) → is_zero a ≡ true → d -ℤ a *ℤ b ≡ d
no_fall a b d z =
    ap (λ (t : ℤ). d -ℤ t *ℤ b) ((zero_decides a).yes_so z) ∙ ap (λ (t : ℤ). d -ℤ t) (zero-*ℤ b) ∙ +ℤ_idr d

-- a count within its number
pub count_size : (n : ℕ) (z : ℤ) → Count n z → n ≤ max_columns → nat_abs z ≤ max_columns
count_size n (pos k) h l = omega (arith, leb→le k n h.most.le)
count_size n (negsuc k) h l = absurd h.least.le

-- a change of bits, and a sum of them
pub bits_size : (a b : Bool) → nat_abs (bit a -ℤ bit b) ≤ 2
bits_size a b = sub_size (bit a) (bit b) 1 1 (bit_size a) (bit_size b)
