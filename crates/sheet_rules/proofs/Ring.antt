-- The ring laws and the order laws of ℤ that `lib.IntN` and `lib.Signed` do not have. Assumes nothing.
use mathlib.Core.Path.{◌≡◌, refl, sym, ap, ◌∙◌, subst}
use mathlib.Core.Logic.{◌⊎◌, inl, inr}
use mathlib.Core.Bool.{Bool, true, false}
use Prim.Native.Nat.{ℕ, zero, suc, ◌+◌, ◌*◌, ◌-◌, ◌≤◌, ◌<◌}
use native.Mathlib.Omega.{arith}
use lib.Dec.{ltb, leb→le, le→leb}
use lib.IntN.{ℤ, pos, negsuc, suc_ℤ, pred_ℤ, neg_ℤ, ◌+ℤ◌, ◌-ℤ◌, ◌*ℤ◌, +ℤ_assoc, +ℤ_comm, +ℤ_idl, +ℤ_idr, +ℤ_invl, +ℤ_invr, suc_ℤ-*ℤ, pred_ℤ-*ℤ, zero-*ℤ, *ℤ_comm, neg_ℤ-+ℤ, neg_ℤ-neg_ℤ, neg_ℤ-suc_ℤ, neg_ℤ-pred_ℤ, sub_ℕ}
use borrow.Author.Tests.{lt-ltb, le-ltb, ltb-true, ltb-false}
use lib.Signed.{◌≤ℤ◌}

-- ---- sums
pub add_left_comm : (a b c : ℤ) → a +ℤ (b +ℤ c) ≡ b +ℤ (a +ℤ c)
add_left_comm a b c = sym (+ℤ_assoc a b c) ∙ ap (λ (x : ℤ). x +ℤ c) (+ℤ_comm a b) ∙ +ℤ_assoc b a c

-- (a + b) + (c + d) = (a + c) + (b + d)
pub add_swap : (a b c d : ℤ) → (a +ℤ b) +ℤ (c +ℤ d) ≡ (a +ℤ c) +ℤ (b +ℤ d)
add_swap a b c d = simp (+ℤ_assoc, add_left_comm)

pub add_right_comm : (a b c : ℤ) → a +ℤ b +ℤ c ≡ a +ℤ c +ℤ b
add_right_comm a b c = simp (+ℤ_assoc, +ℤ_comm)

-- b for a in a sum: the sum moves by the change
pub add_change : (s a b : ℤ) → s +ℤ b ≡ s +ℤ a +ℤ (b -ℤ a)
add_change s a b = sym (+ℤ_assoc s a (b -ℤ a) ∙ ap (λ (x : ℤ). s +ℤ x) (add_left_comm a b (neg_ℤ a) ∙ ap (λ (x : ℤ). b +ℤ x) (+ℤ_invr a) ∙ +ℤ_idr b))

-- ---- induction, up and down from 0
ind : (P : ℤ → Type 0) → P (pos zero) → ((z : ℤ) → P z → P (suc_ℤ z)) → ((z : ℤ) → P z → P (pred_ℤ z)) → (k : ℤ) → P k
ind P o u d (pos zero) = o
ind P o u d (pos (suc n)) = u (pos n) (ind P o u d (pos n))
ind P o u d (negsuc zero) = d (pos zero) o
ind P o u d (negsuc (suc n)) = d (negsuc n) (ind P o u d (negsuc n))

-- ---- products
pub mul_add : (a b c : ℤ) → a *ℤ (b +ℤ c) ≡ a *ℤ b +ℤ a *ℤ c
mul_add a b c = ind (λ (z : ℤ). z *ℤ (b +ℤ c) ≡ z *ℤ b +ℤ z *ℤ c) base up down a
  where
    base : pos zero *ℤ (b +ℤ c) ≡ pos zero *ℤ b +ℤ pos zero *ℤ c
    base = simp (zero-*ℤ, +ℤ_idl)

    up : (z : ℤ) → z *ℤ (b +ℤ c) ≡ z *ℤ b +ℤ z *ℤ c → suc_ℤ z *ℤ (b +ℤ c) ≡ suc_ℤ z *ℤ b +ℤ suc_ℤ z *ℤ c
    up z h = simp (suc_ℤ-*ℤ, h) (add_swap (z *ℤ b) (z *ℤ c) b c)

    down : (z : ℤ) → z *ℤ (b +ℤ c) ≡ z *ℤ b +ℤ z *ℤ c → pred_ℤ z *ℤ (b +ℤ c) ≡ pred_ℤ z *ℤ b +ℤ pred_ℤ z *ℤ c
    down z h = simp (pred_ℤ-*ℤ, h, neg_ℤ-+ℤ) (add_swap (z *ℤ b) (z *ℤ c) (neg_ℤ b) (neg_ℤ c))

pub add_mul : (a b c : ℤ) → (a +ℤ b) *ℤ c ≡ a *ℤ c +ℤ b *ℤ c
add_mul a b c = *ℤ_comm (a +ℤ b) c ∙ mul_add c a b ∙ ap (λ (x : ℤ). x +ℤ c *ℤ b) (*ℤ_comm c a) ∙ ap (λ (x : ℤ). a *ℤ c +ℤ x) (*ℤ_comm c b)

pub neg_mul : (a b : ℤ) → neg_ℤ a *ℤ b ≡ neg_ℤ (a *ℤ b)
neg_mul a b = ind (λ (z : ℤ). neg_ℤ z *ℤ b ≡ neg_ℤ (z *ℤ b)) base up down a
  where
    base : neg_ℤ (pos zero) *ℤ b ≡ neg_ℤ (pos zero *ℤ b)
    base = simp zero-*ℤ

    up : (z : ℤ) → neg_ℤ z *ℤ b ≡ neg_ℤ (z *ℤ b) → neg_ℤ (suc_ℤ z) *ℤ b ≡ neg_ℤ (suc_ℤ z *ℤ b)
    up z h = simp (neg_ℤ-suc_ℤ, pred_ℤ-*ℤ, suc_ℤ-*ℤ, neg_ℤ-+ℤ, h)

    down : (z : ℤ) → neg_ℤ z *ℤ b ≡ neg_ℤ (z *ℤ b) → neg_ℤ (pred_ℤ z) *ℤ b ≡ neg_ℤ (pred_ℤ z *ℤ b)
    down z h = simp (neg_ℤ-pred_ℤ, pred_ℤ-*ℤ, suc_ℤ-*ℤ, neg_ℤ-+ℤ, neg_ℤ-neg_ℤ, h)

pub mul_neg : (a b : ℤ) → a *ℤ neg_ℤ b ≡ neg_ℤ (a *ℤ b)
mul_neg a b = *ℤ_comm a (neg_ℤ b) ∙ neg_mul b a ∙ ap neg_ℤ (*ℤ_comm b a)

pub mul_assoc : (a b c : ℤ) → (a *ℤ b) *ℤ c ≡ a *ℤ (b *ℤ c)
mul_assoc a b c = ind (λ (z : ℤ). (z *ℤ b) *ℤ c ≡ z *ℤ (b *ℤ c)) base up down a
  where
    base : (pos zero *ℤ b) *ℤ c ≡ pos zero *ℤ (b *ℤ c)
    base = simp zero-*ℤ

    up : (z : ℤ) → (z *ℤ b) *ℤ c ≡ z *ℤ (b *ℤ c) → (suc_ℤ z *ℤ b) *ℤ c ≡ suc_ℤ z *ℤ (b *ℤ c)
    up z h = simp (suc_ℤ-*ℤ, add_mul, h)

    down : (z : ℤ) → (z *ℤ b) *ℤ c ≡ z *ℤ (b *ℤ c) → (pred_ℤ z *ℤ b) *ℤ c ≡ pred_ℤ z *ℤ (b *ℤ c)
    down z h = simp (pred_ℤ-*ℤ, add_mul, neg_mul, h)

-- a * v - a * u, and v * a - u * a
pub times_change : (a v u : ℤ) → a *ℤ v -ℤ a *ℤ u ≡ a *ℤ (v -ℤ u)
times_change a v u = sym (mul_add a v (neg_ℤ u) ∙ ap (λ (z : ℤ). a *ℤ v +ℤ z) (mul_neg a u))

pub change_times : (a v u : ℤ) → v *ℤ a -ℤ u *ℤ a ≡ (v -ℤ u) *ℤ a
change_times a v u = sym (add_mul v (neg_ℤ u) a ∙ ap (λ (z : ℤ). v *ℤ a +ℤ z) (neg_mul u a))

pub mul_left_comm : (a b c : ℤ) → a *ℤ (b *ℤ c) ≡ b *ℤ (a *ℤ c)
mul_left_comm a b c = sym (mul_assoc a b c) ∙ ap (λ (x : ℤ). x *ℤ c) (*ℤ_comm a b) ∙ mul_assoc b a c

-- every identity of sums and products: both sides multiplied out and sorted, `simp ring`
pub ruleset ring = (mul_add, add_mul, neg_mul, mul_neg, neg_ℤ-+ℤ, neg_ℤ-neg_ℤ, mul_assoc, mul_left_comm, *ℤ_comm, +ℤ_assoc, add_left_comm, +ℤ_comm)

-- ---- the order: a ≤ b exactly when b is a and a natural number
pub sub_lt : (a b : ℕ) → a < b → sub_ℕ a b ≡ negsuc (b - suc a)
sub_lt a b h = rw (lt-ltb a b h)

pub sub_ge : (a b : ℕ) → b ≤ a → sub_ℕ a b ≡ pos (a - b)
sub_ge a b h = rw (le-ltb a b h)

pub lt_or_ge : (a b : ℕ) → (a < b) ⊎ (b ≤ a)
lt_or_ge a b = go (ltb a b) refl
  where
    go : (t : Bool) → ltb a b ≡ t → (a < b) ⊎ (b ≤ a)
    go true e = inl (ltb-true a b e)
    go false e = inr (ltb-false a b e)

pub le_plus : (a : ℤ) (n : ℕ) → a ≤ℤ (a +ℤ pos n)
le_plus (pos a) n = record { le = le→leb a (a + n) (omega arith) }
le_plus (negsuc a) n = at (lt_or_ge n (suc a))
  where
    at : (n < suc a) ⊎ (suc a ≤ n) → negsuc a ≤ℤ (negsuc a +ℤ pos n)
    at (inl h) = rw (sub_lt n (suc a) h) (record { le = le→leb (suc a - suc n) a (omega arith) })
    at (inr h) = rw (sub_ge n (suc a) h) (record { le = tt })

pub le_diff : (a b : ℤ) → a ≤ℤ b → (n : ℕ) × (b ≡ a +ℤ pos n)
le_diff (pos a) (pos b) h = (b - a, ap pos (omega (arith, leb→le a b h.le)))
le_diff (pos a) (negsuc b) h = absurd h.le
le_diff (negsuc a) (pos b) h = (b + suc a, sym (sub_ge (b + suc a) (suc a) (omega arith) ∙ ap pos (omega arith)))
le_diff (negsuc a) (negsuc b) h = (a - b, sym (sub_lt (a - b) (suc a) (omega arith) ∙ ap negsuc (omega (arith, leb→le b a h.le))))

-- b, as a and something
pub le_by : {a b : ℤ} (n : ℕ) → b ≡ a +ℤ pos n → a ≤ℤ b
le_by {a} {b} n e = rw e (le_plus a n)

-- what holds of a and any natural number holds of each b that a is at most
pub le_elim : {a b : ℤ} → a ≤ℤ b → (P : ℤ → Type 0) → ((n : ℕ) → P (a +ℤ pos n)) → P b
le_elim {a} {b} h P f = let d = le_diff a b h in subst P (sym d.1) (f d.0)

pub add_le_add : {a b c d : ℤ} → a ≤ℤ b → c ≤ℤ d → (a +ℤ c) ≤ℤ (b +ℤ d)
add_le_add {a} {b} {c} {d} h k =
    le_elim h (λ (x : ℤ). (a +ℤ c) ≤ℤ (x +ℤ d)) (λ n.
    le_elim k (λ (y : ℤ). (a +ℤ c) ≤ℤ (a +ℤ pos n +ℤ y)) (λ m.
    le_by (n + m) (add_swap a (pos n) c (pos m))))

pub nonneg_elim : (d : ℤ) → pos zero ≤ℤ d → (P : ℤ → Type 0) → ((n : ℕ) → P (pos n)) → P d
nonneg_elim (pos n) h P f = f n
nonneg_elim (negsuc n) h P f = absurd h.le

pub nonneg : (n : ℕ) → pos zero ≤ℤ pos n
nonneg n = record { le = le→leb zero n (omega arith) }

-- multiplied by a number that is not negative
pub mul_le_mul : (d : ℤ) {a b : ℤ} → pos zero ≤ℤ d → a ≤ℤ b → (d *ℤ a) ≤ℤ (d *ℤ b)
mul_le_mul d {a} {b} h k =
    le_elim k (λ (y : ℤ). (d *ℤ a) ≤ℤ (d *ℤ y)) (λ m.
    nonneg_elim d h (λ (x : ℤ). (x *ℤ a) ≤ℤ (x *ℤ (a +ℤ pos m))) (λ n.
    le_by (n * m) (mul_add (pos n) a (pos m))))

-- multiplied by a number that is not positive
pub mul_le_neg : (d : ℤ) {a b : ℤ} → d ≤ℤ pos zero → a ≤ℤ b → (d *ℤ b) ≤ℤ (d *ℤ a)
mul_le_neg d {a} {b} h k = le_elim k (λ (y : ℤ). (d *ℤ y) ≤ℤ (d *ℤ a)) (λ m. le_by ((le_diff d (pos zero) h).0 * m) (by (le_diff d (pos zero) h).0 (le_diff d (pos zero) h).1 m))
  where
    by : (n : ℕ) → pos zero ≡ d +ℤ pos n → (m : ℕ) → d *ℤ a ≡ d *ℤ (a +ℤ pos m) +ℤ pos n *ℤ pos m
    by n e m = sym (rw (mul_add d a (pos m), +ℤ_assoc, ← add_mul d (pos n) (pos m), ← e, zero-*ℤ, +ℤ_idr))

-- the difference is not negative
pub sub_nonneg : (a b : ℤ) → a ≤ℤ b → pos zero ≤ℤ (b -ℤ a)
sub_nonneg a b h = le_elim h (λ (x : ℤ). pos zero ≤ℤ (x -ℤ a)) (λ n. rw (+ℤ_assoc, +ℤ_comm (pos n) (neg_ℤ a), ← +ℤ_assoc a (neg_ℤ a) (pos n), +ℤ_invr a, +ℤ_idl (pos n)) (nonneg n))

pub neg_le_neg : (a b : ℤ) → a ≤ℤ b → neg_ℤ b ≤ℤ neg_ℤ a
neg_le_neg a b h = le_elim h (λ (x : ℤ). neg_ℤ x ≤ℤ neg_ℤ a) (λ n. le_by n (sym (rw (neg_ℤ-+ℤ, +ℤ_assoc, +ℤ_invl, +ℤ_idr))))
