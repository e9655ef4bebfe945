-- `whole_of` is the nearest whole number, a tie to the even one, and there is one such number only. Assumes nothing.
use Rattle.std.proofs.Common.{◌≡◌, ℕ, zero, suc, ◌+◌, ◌*◌, ◌%◌, ◌≤◌, Bool, true, false, ℤ, pos, negsuc, ◌-ℤ◌, ◌*ℤ◌, neg_ℤ, nat_abs, sym, refl, ap, ◌∙◌, ⊎_elim, suc-mul, zero-mul, mul-one, arith}
use lib.IntN.{sub_ℕ, neg_ℤ-neg_ℤ, neg_ℤ-+ℤ}
use lib.Ieee.{up, down}
use lib.Ieee.Fits.{down_pos}
use lib.Ieee.Nearest.{closest}
use Rattle.doubles.specs.Exact.{signed}
use Rattle.sheet_rules.proofs.Ring.{lt_or_ge, sub_lt, sub_ge, neg_mul}
use Rattle.sheet_rules.proofs.Sizes.{abs_neg}
use Rattle.whole_round.specs.Whole.{Nearest, away, whole_of}
use Rattle.whole_round.proofs.Closest.{Near, Least, apart, closest_near, one_near, near_least, least_near}

abs_sub : (a b : ℕ) → nat_abs (sub_ℕ a b) ≡ apart a b
abs_sub a b = ⊎_elim (λ h. rw (sub_lt a b h) (omega arith)) (λ h. rw (sub_ge a b h) (omega arith)) (lt_or_ge a b)

minus_pos : (a b : ℕ) → nat_abs (pos a -ℤ pos b) ≡ apart a b
minus_pos a zero = omega arith
minus_pos a (suc b) = abs_sub a (suc b)

-- ---- `away` in numbers from 0 up
away_pos : (n : ℕ) (e : ℤ) (w : ℕ) → away (pos n) e (pos w) ≡ apart (n * up e) (w * down e)
away_pos n e w = rw (mul-one (up e)) (minus_pos (n * up e) (w * down e))

away_neg : (n : ℕ) (e : ℤ) (w : ℕ) → away (pos n) e (negsuc w) ≡ n * up e + suc w * down e
away_neg n e w = rw (mul-one (up e), neg_ℤ-neg_ℤ (pos (suc w * down e)))

away_turned : (n e w : ℤ) → away (neg_ℤ n) e (neg_ℤ w) ≡ away n e w
away_turned n e w =
    let u : ℤ = n *ℤ pos (up e * 1) in
    let v : ℤ = w *ℤ pos (down e) in
    rw (neg_mul n (pos (up e * 1)), neg_mul w (pos (down e)), ← neg_ℤ-+ℤ u (neg_ℤ v)) (abs_neg (u -ℤ v))

mirror : {n e w : ℤ} → Nearest n e w → Nearest (neg_ℤ n) e (neg_ℤ w)
mirror {n} {e} {w} x =
    record {
      none_nearer = λ v. rw (away_turned n e w, ← back v) (x.none_nearer (neg_ℤ v));
      even =
          λ v o t. rw (abs_neg w)
          (x.even (neg_ℤ v) (λ h. o (sym (neg_ℤ-neg_ℤ v) ∙ ap neg_ℤ h)) (back v ∙ t ∙ away_turned n e w));
    }
  where
    back : (v : ℤ) → away n e (neg_ℤ v) ≡ away (neg_ℤ n) e v
    back v = sym (away_turned n e (neg_ℤ v)) ∙ ap (away (neg_ℤ n) e) (neg_ℤ-neg_ℤ v)

to_ℤ : (n : ℕ) (e : ℤ) (w : ℕ) → Near (n * up e) (down e) w → Nearest (pos n) e (pos w)
to_ℤ n e w x = record { none_nearer = none; even = tie }
  where
    l : Least (n * up e) (down e) w
    l = near_least (n * up e) (down e) (down_pos e) x

    none : (v : ℤ) → away (pos n) e (pos w) ≤ away (pos n) e v
    none (pos v) = rw (away_pos n e w, away_pos n e v) (l.none_nearer v)
    none (negsuc v) = omega (arith, away_pos n e w, away_neg n e v, x.near, suc-mul v (down e))

    tie : (v : ℤ) → ¬ (v ≡ pos w) → away (pos n) e v ≡ away (pos n) e (pos w) → w % 2 ≡ 0
    tie (pos v) o t = l.even v (λ h. o (ap pos h)) (sym (away_pos n e v) ∙ t ∙ away_pos n e w)
    tie (negsuc v) o t =
        absurd (omega (arith, t, away_pos n e w, away_neg n e v, x.near, suc-mul v (down e), down_pos e))

from_ℤ : (n : ℕ) (e w : ℤ) → Nearest (pos n) e w → (v : ℕ) × (w ≡ pos v) × Near (n * up e) (down e) v
from_ℤ n e (pos w) x = (
  w,
  refl,
  least_near (n * up e) (down e) (down_pos e)
      (record {
        none_nearer = λ v. rw (← away_pos n e w, ← away_pos n e v) (x.none_nearer (pos v));
        even = λ v o t. x.even (pos v) (λ h. o (cc)) (away_pos n e v ∙ t ∙ sym (away_pos n e w));
      }),
)
from_ℤ n e (negsuc w) x =
    absurd
    (omega (arith, x.none_nearer (pos 0), away_neg n e w, away_pos n e 0, suc-mul w (down e), zero-mul (down e), down_pos e))

-- ---- the laws
pub is_nearest : (s : Bool) (n : ℕ) (e : ℤ) → Nearest (signed s n) e (whole_of s n e)
unfolding whole_of
is_nearest false n e = to_ℤ n e (closest (n * up e) (down e)) (closest_near (n * up e) (down e) (down_pos e))
is_nearest true n e = mirror (to_ℤ n e (closest (n * up e) (down e)) (closest_near (n * up e) (down e) (down_pos e)))

one_pos : (n : ℕ) (e v w : ℤ) → Nearest (pos n) e v → Nearest (pos n) e w → v ≡ w
one_pos n e v w x y =
    let a = from_ℤ n e v x in
    let b = from_ℤ n e w y in
    a.1 ∙ ap pos (one_near (n * up e) (down e) a.0 b.0 (down_pos e) a.2 b.2) ∙ sym b.1

pub one_nearest : (n e v w : ℤ) → Nearest n e v → Nearest n e w → v ≡ w
one_nearest (pos n) e v w x y = one_pos n e v w x y
one_nearest (negsuc n) e v w x y =
    sym (neg_ℤ-neg_ℤ v) ∙ ap neg_ℤ (one_pos (suc n) e (neg_ℤ v) (neg_ℤ w) (mirror x) (mirror y)) ∙ neg_ℤ-neg_ℤ w
