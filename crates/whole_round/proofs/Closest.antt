-- `closest a d`: the whole number nearest to a / d, a tie to the even one, and that there is one only; all in numbers
-- from 0 up. Assumes nothing.
use Rattle.std.proofs.Common.{◌≡◌, ℕ, zero, suc, ◌+◌, ◌-◌, ◌*◌, ◌/◌, ◌%◌, ◌<◌, ◌≤◌, not, T, eqb, ◌⊎◌, sym, refl, ap, ◌∙◌, subst, ⊎_elim, le_trans, le_of_eq, mul-le-mul_right, mod-lt, suc-mul, add-mul, le_antisymm, one-mul, div-add-mod', le-div_iff_mul-le, zero-mul, arith, eqb→eq, leb→le}
use Prim.Native.Nat.{compare, Ordering}
use native.Mathlib.Nat.{eq_of_mul-eq-mul_right}
use lib.Dec.{is_le, compare_is_eq, nleb→lt, eqb_refl}
use lib.Arith.{lt_of_le-ne}
use lib.Ieee.{nearest}
use lib.Ieee.Nearest.{closest, nearest-ge}
use Rattle.sheet_rules.proofs.Ring.{lt_or_ge}

-- what `compare` says
abbrev Cmp : Ordering → ℕ → ℕ → Type 0
Cmp Ordering.lt a b = a < b
Cmp Ordering.eq a b = a ≡ b
Cmp Ordering.gt a b = b < a

cmp : (a b : ℕ) → Cmp (compare a b) a b
cmp a b =
    go (compare a b) (leb→le a b) (nleb→lt a b) (eqb→eq a b)
    (λ (e : a ≡ b). subst (λ (x : ℕ). T (eqb a x)) e (eqb_refl a))
  where
    go : (o : Ordering) → (T (is_le o) → a ≤ b) → (T (not (is_le o)) → b < a) → (T (compare_is_eq o) → a ≡ b)
        → (a ≡ b → T (compare_is_eq o)) → Cmp o a b
    go Ordering.lt h k e n = lt_of_le-ne (h tt) n
    go Ordering.eq h k e n = e tt
    go Ordering.gt h k e n = k tt

abbrev pub apart : ℕ → ℕ → ℕ
apart a b = (a - b) + (b - a)

pub record Near (a d w : ℕ) : Type 0 where
  pub near : 2 * apart a (w * d) ≤ d
  pub even : 2 * apart a (w * d) ≡ d → w % 2 ≡ 0

tied : (a d q r b : ℕ) → q * d + r ≡ a → r * 2 ≡ d → q % 2 ≡ b → Near a d (q + b)
tied a d q r zero s t e = record { near = omega (arith, add-mul q 0 d, zero-mul d); even = λ _. omega arith }
tied a d q r (suc zero) s t e = record { near = omega (arith, add-mul q 1 d, one-mul d); even = λ _. omega arith }
tied a d q r (suc (suc b)) s t e = absurd (omega arith)

pub closest_near : (a d : ℕ) → 0 < d → Near a d (closest a d)
closest_near a d p = go (compare (a % d * 2) d) (cmp (a % d * 2) d)
  where
    go : (o : Ordering) → Cmp o (a % d * 2) d → Near a d (nearest (a / d) o)
    go Ordering.lt h =
        record { near = omega (arith, div-add-mod' a d); even = λ t. absurd (omega (arith, div-add-mod' a d, t)) }
    go Ordering.eq h = tied a d (a / d) (a % d) (a / d % 2) (div-add-mod' a d) h refl
    go Ordering.gt h =
        record
        { near = omega (arith, div-add-mod' a d, suc-mul (a / d) d, mod-lt a p); even = λ t. absurd (omega (arith, div-add-mod' a d, suc-mul (a / d) d, mod-lt a p, t)) }

-- two of them would be next to each other and both even
ordered : (a d v w : ℕ) → 0 < d → Near a d v → Near a d w → v < w → ⊥
ordered a d v w p x y l =
    let m : suc v * d ≤ w * d = mul-le-mul_right d l in
    let s : suc v * d ≡ v * d + d = suc-mul v d in
    let f : w ≡ suc v = eq_of_mul-eq-mul_right d p w (suc v) (omega (arith, x.near, y.near)) in
    omega (arith, x.even (omega (arith, x.near, y.near)), y.even (omega (arith, x.near, y.near)))

pub one_near : (a d v w : ℕ) → 0 < d → Near a d v → Near a d w → v ≡ w
one_near a d v w p x y =
    ⊎_elim (λ l. absurd (ordered a d v w p x y l))
    (λ g. ⊎_elim (λ l. absurd (ordered a d w v p y x l)) (λ k. le_antisymm k g) (lt_or_ge w v)) (lt_or_ge v w)

-- ---- by words: none is nearer, and where another is as near, w is the even one
pub record Least (a d w : ℕ) : Type 0 where
  pub none_nearer : (v : ℕ) → apart a (w * d) ≤ apart a (v * d)
  pub even : (v : ℕ) → ¬ (v ≡ w) → apart a (v * d) ≡ apart a (w * d) → w % 2 ≡ 0

module _ (a d : ℕ) (p : 0 < d) where
  by_order : {P : Type 0} (v w : ℕ) → (suc v * d ≤ w * d → P) → (v ≡ w → P) → (suc w * d ≤ v * d → P) → P
  by_order v w below same above =
      ⊎_elim
      (λ l. below (mul-le-mul_right d l))
      (λ g. ⊎_elim (λ l. above (mul-le-mul_right d l)) (λ k. same (le_antisymm k g)) (lt_or_ge w v))
      (lt_or_ge v w)

  pub near_least : {w : ℕ} → Near a d w → Least a d w
  near_least {w} x =
      record {
        none_nearer = λ v.
            by_order v w
            (λ m. omega (arith, x.near, suc-mul v d))
            (λ e. le_of_eq (ap (λ (z : ℕ). apart a (z * d)) (sym e)))
            (λ m. omega (arith, x.near, suc-mul w d));
        even = λ v o t.
            by_order v w
            (λ m. x.even (omega (arith, x.near, t, suc-mul v d)))
            (λ e. absurd (o e))
            (λ m. x.even (omega (arith, x.near, t, suc-mul w d)));
      }

  -- its neighbour on the side of a / d
  pub least_near : {w : ℕ} → Least a d w → Near a d w
  least_near {w} x = ⊎_elim (λ l. over x l) (λ g. under w x g) (lt_or_ge (w * d) a)
    where
      over : {w : ℕ} → Least a d w → w * d < a → Near a d w
      over {w} x l =
          record {
            near = omega (arith, x.none_nearer (suc w), suc-mul w d);
            even = λ t. x.even (suc w) (λ e. omega (arith, e)) (omega (arith, t, suc-mul w d));
          }

      under : (w : ℕ) → Least a d w → a ≤ w * d → Near a d w
      under zero x g = record { near = omega (arith, zero-mul d); even = λ t. omega arith }
      under (suc w) x g =
          record {
            near = omega (arith, x.none_nearer w, suc-mul w d);
            even = λ t. x.even w (λ e. omega (arith, e)) (omega (arith, t, x.none_nearer w, suc-mul w d));
          }

-- an even number more
pub shifted : (a d k : ℕ) → 0 < d → k % 2 ≡ 0 → closest (a + k * d) d ≡ closest a d + k
shifted a d k p z =
    let x = closest_near a d p in
    let s : (closest a d + k) * d ≡ closest a d * d + k * d = add-mul (closest a d) k d in
    one_near (a + k * d) d (closest (a + k * d) d) (closest a d + k) p (closest_near (a + k * d) d p)
    (record { near = omega (arith, x.near); even = λ t. omega (arith, x.even (omega (arith, t))) })

-- a whole number is its own
pub on_whole : (k d : ℕ) → 0 < d → closest (k * d) d ≡ k
on_whole k d p =
    one_near (k * d) d (closest (k * d) d) k p (closest_near (k * d) d p)
    (record { near = omega arith; even = λ t. absurd (omega (arith, t)) })

pub of_zero : (u d : ℕ) → 0 < d → closest (0 * u) d ≡ 0
of_zero u d p = ap (λ (n : ℕ). closest n d) (zero-mul u ∙ sym (zero-mul d)) ∙ on_whole 0 d p

-- no smaller than what a / d reaches
pub reaches : (a d k : ℕ) → 0 < d → k * d ≤ a → k ≤ closest a d
reaches a d k p h = le_trans ((le-div_iff_mul-le p).1 h) (nearest-ge (a / d) (compare (a % d * 2) d))
