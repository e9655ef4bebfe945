-- A double times -1024 is exact, subnormals too, unless it overflows; then it is an infinity, and its exact value is
-- past every limit. Assumes nothing.
use Rattle.std.proofs.Common.{◌≡◌, ℕ, zero, suc, ◌+◌, ◌-◌, ◌*◌, ◌^◌, ◌<◌, ◌≤◌, Bool, true, false, cond, not, T, ltb, ◌⊎◌, ℤ, pos, negsuc, sym, refl, ap, ◌∙◌, subst, inl, inr, ⊎_elim, le_trans, le_of_eq, mul-le-mul_right, mul_assoc, mul_comm, one-mul, lt_of_not-le, mul-one, mul_right_comm, not-le_of_lt, le_of_mul-le-mul_right, mul_left_comm, arith, lit≤, pow_pos, pow-add}
use lib.Signed.{mag}
use lib.Pow.{pow-lt}
use lib.Ieee.{Float, nan, inf, fin, binary64, up, down, odd, units, round, mul, le, fits}
use lib.Ieee.Fits.{down_pos, round_is}
use lib.Ieee.Exact.{HasValue, round_exact}
use lib.Ieee.Order.{round_mono}
use lib.Ieee.Nearest.{closest, closest_same}
use Rattle.doubles.specs.Limits.{max_multiplier}
use Rattle.doubles.specs.Exact.{signed}
use Rattle.sheet_rules.proofs.Ring.{lt_or_ge}
use Rattle.whole_round.specs.Whole.{whole_of, held, round_even, scaled, scaled_of}
use Rattle.whole_round.proofs.Closest.{reaches}
use Rattle.whole_round.proofs.Parts.{digits}
use Rattle.whole_round.proofs.Answers.{held_over, past}

-- ---- `round_even` sees only the exact value
pub by_value : (limit : ℤ) (y : Float) (s : Bool) (n d : ℕ) → 0 < d → HasValue y s n d
    → round_even limit y ≡ held limit (signed s (closest n d)) y
unfolding round_even whole_of
by_value limit nan s n d p v = elim v [ ]
by_value limit (inf _) s n d p v = elim v [ ]
by_value limit (fin t m e) s n d p v = rw (v.0, closest_same (m * up e) (down e) n d (down_pos e) p v.1)

-- an infinity, where the exact value is past every limit
by_overflow : (limit : ℤ) (y : Float) (s : Bool) (n d : ℕ) → mag limit < 2 ^ 63 → 0 < d
    → (y ≡ inf s) × (2 ^ 1024 * d ≤ n) → round_even limit y ≡ held limit (signed s (closest n d)) y
unfolding round_even
by_overflow limit y s n d l p o =
    rw o.0
    (sym (held_over limit s (closest n d) (inf s) (past limit (closest n d) l (le_trans (lit≤ tt) (reaches n d (2 ^ 1024) p o.1)))))

-- ---- past 2 ^ 1024 `round` gives an infinity
over_units : (s : Bool) (q k : ℕ) → T (le (inf false) (units binary64 false q k)) → units binary64 s q k ≡ inf s
unfolding units le
over_units s q k = go (ltb (q * 2 ^ k) (2 ^ 2098)) q
  where
    go : (b : Bool) (q : ℕ) → T (le (inf false) (cond b (odd 54 false q k 1074) (inf false)))
        → cond b (odd 54 s q k 1074) (inf s) ≡ inf s
    go false q t = refl
    go true zero t = absurd t
    go true (suc q) t = absurd t

top : round binary64 false (2 ^ 1024) 1 ≡ inf false
unfolding round
top = refl

over : (s : Bool) (num den : ℕ) → 0 < den → 2 ^ 1024 * den ≤ num → round binary64 s num den ≡ inf s
over s num den p h =
    let t : T (le (inf false) (round binary64 false num den)) =
    subst (λ (y : Float). T (le y (round binary64 false num den))) top
    (round_mono binary64 (2 ^ 1024) 1 num den (lit≤ tt) p (le_trans h (le_of_eq (sym (mul-one num))))) in
    round_is binary64 s num den
    ∙ over_units s _ _ (subst (λ (y : Float). T (le (inf false) y)) (round_is binary64 false num den) t)

-- ---- up e / down e times 2 ^ 1084 is a power of two
shift : (e : ℤ) → down e ≤ 2 ^ 1074 → (j : ℕ) × (up e * 2 ^ 1084 ≡ 2 ^ j * down e)
shift (pos k) h = (k + 1084, sym (pow-add 2 k 1084) ∙ sym (mul-one (2 ^ (k + 1084))))
shift (negsuc k) h =
    let l : k < 1084 = lt_of_not-le (λ g. not-le_of_lt (pow-lt (few k g)) h) in
    (1084 - suc k, one-mul (2 ^ 1084) ∙ ap (λ (n : ℕ). 2 ^ n) (both k l) ∙ pow-add 2 (1084 - suc k) (suc k))
  where
    few : (k : ℕ) → 1084 ≤ k → 1074 < suc k
    few k g = omega arith

    both : (k : ℕ) → k < 1084 → 1084 ≡ 1084 - suc k + suc k
    both k l = omega arith

-- ---- the product
regroup : (m U P : ℕ) → 1024 * m * U * P ≡ m * (U * (1024 * P))
regroup m U P = simp (mul_assoc, mul_left_comm)

same : (s : Bool) (m : ℕ) (e : ℤ)
    → round binary64 s (m * up e * 1024) (down e * 1) ≡ round binary64 s (1024 * m * up e) (down e)
same s m e = rw (mul-one (down e), mul_comm (m * up e) 1024, mul_assoc 1024 m (up e))

turned : (s : Bool) (m : ℕ) (e : ℤ) → scaled (fin s m e) ≡ round binary64 (not s) (1024 * m * up e) (down e)
unfolding mul
turned true m e = same false m e
turned false m e = same true m e

-- the product has the exact value -1024 * m * 2 ^ e, or it overflows
abbrev pub Product : Bool → ℕ → ℤ → Float → Type 0
Product s m e y =
    HasValue y (not s) (1024 * m * up e) (down e) ⊎ ((y ≡ inf (not s)) × (2 ^ 1024 * down e ≤ 1024 * m * up e))

pub product : (s : Bool) (m : ℕ) (e : ℤ) → T (fits binary64 (fin s m e)) → Product s m e (scaled (fin s m e))
product s m e f =
    let g = digits s m e f in
    let j = shift e g.1 in
    let n = 1024 * m * up e in
    let v : n * 2 ^ 1074 ≡ m * 2 ^ j.0 * down e =
    regroup m (up e) (2 ^ 1074) ∙ ap (λ (z : ℕ). m * z) j.1 ∙ sym (mul_assoc m (2 ^ j.0) (down e)) in
    subst (λ (y : Float). Product s m e y) (sym (turned s m e))
    (⊎_elim
    (λ l. inl (round_exact binary64 (not s) n (down e) m j.0 (down_pos e) g.0 l v))
    (λ l.
    let o : 2 ^ 1024 * down e ≤ n =
    le_of_mul-le-mul_right
    (le_trans (le_of_eq (mul_right_comm (2 ^ 1024) (down e) (2 ^ 1074))) (le_trans (mul-le-mul_right (down e) l) (le_of_eq (sym v))))
    (pow_pos 1074) in
    inr (over (not s) n (down e) (down_pos e) o, o))
    (lt_or_ge (m * 2 ^ j.0) (2 ^ 2098)))

-- ---- the answer for the product
pub scaled_is : (x : Float) → T (fits binary64 x) → round_even (pos max_multiplier) (scaled x) ≡ scaled_of x
unfolding scaled_of whole_of
scaled_is nan f = unfold mul round_even in refl
scaled_is (inf true) f = unfold mul round_even in refl
scaled_is (inf false) f = unfold mul round_even in refl
scaled_is (fin s m e) f =
    ⊎_elim
    (by_value (pos max_multiplier) (scaled (fin s m e)) (not s) (1024 * m * up e) (down e) (down_pos e))
    (by_overflow (pos max_multiplier) (scaled (fin s m e)) (not s) (1024 * m * up e) (down e) (lit≤ tt) (down_pos e))
    (product s m e f)
