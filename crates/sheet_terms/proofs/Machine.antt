-- Signed arithmetic at i64 by reflection. An expression's leaves are numbers with a bound on their size; `ok` computes a bound at each node and tests it; then
-- the machine's value is the exact one (`exact`), and what each operation asks holds (`fit`). At closed bounds `ok e` computes, and `tt` answers it.
--     num z m h     a number that the machine reads back from its bits: a parameter, an element, a call's result, a literal
--     acc z m h     a number read off bits that have a name: `to_z w64 r` of a loop's variable r
-- Assumes nothing.
use mathlib.Core.Path.{◌≡◌, refl, ◌∙◌}
use mathlib.Core.Bool.{Bool, true, false, ◌&&◌}
use mathlib.Core.List.{List}
use Prim.Native.Nat.{ℕ, suc, ◌+◌, ◌*◌, ◌/◌, ◌%◌, ◌^◌, ◌≤◌, ◌<◌}
use native.Mathlib.Omega.{arith}
use lib.Dec.{T, ltb, ltb→lt, lit<}
use lib.ListN.{length, get_or, take}
use lib.IntN.{ℤ, pos, negsuc, nat_abs, ◌+ℤ◌, ◌-ℤ◌, ◌*ℤ◌}
use lib.Signed.{quot_z, rem_z, mag}
use mir.Syntax.{w64}
use mir.Val.{SFits, to_z, of_z}
use mir.ValLaws.{to_z-of_z}
use native.Mathlib.Nat.{lt_of_le_of_lt}
use Rattle.doubles.proofs.Items.{item}
use Rattle.sheet_rules.proofs.Sizes.{mul_size, sub_size, abs_add, abs_neg}

mag_abs : (z : ℤ) → mag z ≤ nat_abs z
mag_abs (pos n) = omega arith
mag_abs (negsuc n) = omega arith

-- when a number fits an i64
pub fits : (z : ℤ) (m : ℕ) → nat_abs z ≤ m → m < 2 ^ 63 → SFits w64 z
fits z m h k = record { sfits = lt_of_le_of_lt (mag_abs z) (lt_of_le_of_lt h k) }

-- what the machine reads back from the bits of z
abbrev pub word : ℤ → ℤ
word z = to_z w64 (of_z w64 z)

pub data E : Type 0 where
  num acc : (z : ℤ) (m : ℕ) → nat_abs z ≤ m → E
  add sub mul : E → E → E
  half odd : E → E

-- the exact value
abbrev pub val : E → ℤ
val (num z m h) = z
val (acc z m h) = z
val (add a b) = val a +ℤ val b
val (sub a b) = val a -ℤ val b
val (mul a b) = val a *ℤ val b
val (half a) = quot_z (val a) (pos 2)
val (odd a) = rem_z (val a) (pos 2)

-- what the machine reads at a node
abbrev pub mach : E → ℤ
mach (num z m h) = word z
mach (acc z m h) = z
mach (add a b) = word (mach a +ℤ mach b)
mach (sub a b) = word (mach a -ℤ mach b)
mach (mul a b) = word (mach a *ℤ mach b)
mach (half a) = word (quot_z (mach a) (pos 2))
mach (odd a) = word (rem_z (mach a) (pos 2))

-- what an operation makes, before it is stored
abbrev pub raw : E → ℤ
raw (num z m h) = z
raw (acc z m h) = z
raw (add a b) = mach a +ℤ mach b
raw (sub a b) = mach a -ℤ mach b
raw (mul a b) = mach a *ℤ mach b
raw (half a) = quot_z (mach a) (pos 2)
raw (odd a) = rem_z (mach a) (pos 2)

abbrev pub bound : E → ℕ
bound (num z m h) = m
bound (acc z m h) = m
bound (add a b) = bound a + bound b
bound (sub a b) = bound a + bound b
bound (mul a b) = bound a * bound b
bound (half a) = bound a / 2
bound (odd a) = 1

abbrev in_range : ℕ → Bool
in_range m = ltb m (2 ^ 63)

abbrev pub ok : E → Bool
ok (num z m h) = in_range m
ok (acc z m h) = in_range m
ok (add a b) = in_range (bound a + bound b) && (ok a && ok b)
ok (sub a b) = in_range (bound a + bound b) && (ok a && ok b)
ok (mul a b) = in_range (bound a * bound b) && (ok a && ok b)
ok (half a) = in_range (bound a / 2) && ok a
ok (odd a) = ok a

both : (p q : Bool) → T (p && q) → T p × T q
both true q t = (tt, t)
both false q t = absurd t

half_abs : (z : ℤ) → nat_abs (quot_z z (pos 2)) ≡ nat_abs z / 2
half_abs (pos a) = refl
half_abs (negsuc a) = abs_neg (pos (suc a / 2))

odd_abs : (z : ℤ) → nat_abs (rem_z z (pos 2)) ≡ nat_abs z % 2
odd_abs (pos a) = refl
odd_abs (negsuc a) = abs_neg (pos (suc a % 2))

-- the size of the exact value
pub size : (e : E) → T (ok e) → nat_abs (val e) ≤ bound e
size (num z m h) t = h
size (acc z m h) t = h
size (add a b) t = let p = both (ok a) (ok b) (both (in_range (bound a + bound b)) (ok a && ok b) t).1 in omega (arith, abs_add (val a) (val b), size a p.0, size b p.1)
size (sub a b) t = let p = both (ok a) (ok b) (both (in_range (bound a + bound b)) (ok a && ok b) t).1 in sub_size (val a) (val b) (bound a) (bound b) (size a p.0) (size b p.1)
size (mul a b) t = let p = both (ok a) (ok b) (both (in_range (bound a * bound b)) (ok a && ok b) t).1 in mul_size (val a) (val b) (bound a) (bound b) (size a p.0) (size b p.1)
size (half a) t = rw (half_abs (val a)) (omega (arith, size a (both (in_range (bound a / 2)) (ok a) t).1))
size (odd a) t = rw (odd_abs (val a)) (omega arith)

top : (e : E) → T (ok e) → bound e < 2 ^ 63
top (num z m h) t = ltb→lt m (2 ^ 63) t
top (acc z m h) t = ltb→lt m (2 ^ 63) t
top (add a b) t = ltb→lt (bound a + bound b) (2 ^ 63) (both (in_range (bound a + bound b)) (ok a && ok b) t).0
top (sub a b) t = ltb→lt (bound a + bound b) (2 ^ 63) (both (in_range (bound a + bound b)) (ok a && ok b) t).0
top (mul a b) t = ltb→lt (bound a * bound b) (2 ^ 63) (both (in_range (bound a * bound b)) (ok a && ok b) t).0
top (half a) t = ltb→lt (bound a / 2) (2 ^ 63) (both (in_range (bound a / 2)) (ok a) t).0
top (odd a) t = lit< tt

val_fits : (e : E) → T (ok e) → SFits w64 (val e)
val_fits e t = fits (val e) (bound e) (size e t) (top e t)

-- the machine's value is the exact one
pub exact : (e : E) → T (ok e) → mach e ≡ val e
exact (num z m h) t = to_z-of_z w64 z (fits z m h (ltb→lt m (2 ^ 63) t))
exact (acc z m h) t = refl
exact (add a b) t = let p = both (ok a) (ok b) (both (in_range (bound a + bound b)) (ok a && ok b) t).1 in (λ i. word (exact a p.0 i +ℤ exact b p.1 i)) ∙ to_z-of_z w64 (val a +ℤ val b) (val_fits (add a b) t)
exact (sub a b) t = let p = both (ok a) (ok b) (both (in_range (bound a + bound b)) (ok a && ok b) t).1 in (λ i. word (exact a p.0 i -ℤ exact b p.1 i)) ∙ to_z-of_z w64 (val a -ℤ val b) (val_fits (sub a b) t)
exact (mul a b) t = let p = both (ok a) (ok b) (both (in_range (bound a * bound b)) (ok a && ok b) t).1 in (λ i. word (exact a p.0 i *ℤ exact b p.1 i)) ∙ to_z-of_z w64 (val a *ℤ val b) (val_fits (mul a b) t)
exact (half a) t = let p = (both (in_range (bound a / 2)) (ok a) t).1 in (λ i. word (quot_z (exact a p i) (pos 2))) ∙ to_z-of_z w64 (quot_z (val a) (pos 2)) (val_fits (half a) t)
exact (odd a) t = (λ i. word (rem_z (exact a t i) (pos 2))) ∙ to_z-of_z w64 (rem_z (val a) (pos 2)) (val_fits (odd a) t)

-- what an operation asks
pub fit : (e : E) → T (ok e) → SFits w64 (raw e)
fit (num z m h) t = val_fits (num z m h) t
fit (acc z m h) t = val_fits (acc z m h) t
fit (add a b) t = let p = both (ok a) (ok b) (both (in_range (bound a + bound b)) (ok a && ok b) t).1 in rw (exact a p.0, exact b p.1) (val_fits (add a b) t)
fit (sub a b) t = let p = both (ok a) (ok b) (both (in_range (bound a + bound b)) (ok a && ok b) t).1 in rw (exact a p.0, exact b p.1) (val_fits (sub a b) t)
fit (mul a b) t = let p = both (ok a) (ok b) (both (in_range (bound a * bound b)) (ok a && ok b) t).1 in rw (exact a p.0, exact b p.1) (val_fits (mul a b) t)
fit (half a) t = rw (exact a (both (in_range (bound a / 2)) (ok a) t).1) (val_fits (half a) t)
fit (odd a) t = rw (exact a t) (val_fits (odd a) t)

-- a bound passes to what the machine reads back
pub seen : (z : ℤ) (m : ℕ) (h : nat_abs z ≤ m) → T (ok (num z m h)) → nat_abs (word z) ≤ m
seen z m h t = rw (exact (num z m h) t) h

-- a call's result is what the machine reads back: its range is the call's `.ok`
pub result : (z : ℤ) → mag z < 2 ^ 63 → word z ≡ z
result z h = to_z-of_z w64 z (record { sfits = h })

-- a parameter is what the machine reads back
pub of_word : {z : ℤ} → SFits w64 z → word z ≡ z
of_word {z} h = to_z-of_z w64 z h

-- in a `for` over the first n numbers of a list, the one in hand is the list's own
pub result_item : (n : ℕ) (l : List ℤ) {k : ℕ} → n ≤ length l → k < length (take n l) → mag (get_or (take n l) k (pos 0)) < 2 ^ 63 → word (get_or (take n l) k (pos 0)) ≡ get_or l k (pos 0)
result_item n l {k} h t b = result (get_or (take n l) k (pos 0)) b ∙ item n l h t (pos 0)
