-- The answers of `round_even`, each from the tests on its way. Assumes nothing.
use Rattle.std.proofs.Common.{◌≡◌, ℕ, zero, suc, ◌+◌, ◌*◌, ◌^◌, ◌<◌, ◌≤◌, Bool, true, false, T, ℤ, pos, negsuc, ◌-ℤ◌, neg_ℤ, nat_abs, sym, refl, ap, ◌∙◌, subst, true≢false, mul-pos, zero-mul, arith, w64, SFits, to_z, of_z, ltb-false, ltb-true, lt-ltb}
use lib.IntN.{+ℤ_idl}
use lib.Signed.{lt_z, mag}
use lib.Ieee.{Float, nan, inf, fin, up, down, lt, ne}
use mir.ValLaws.{to_z-of_z, to_z_pos}
use lib.Ieee.Fits.{up_pos, down_pos}
use lib.Ieee.Nearest.{closest}
use lib.Ieee.Compare.{differs_from_itself}
use Rattle.doubles.specs.Num.{size}
use Rattle.whole_round.specs.declared.Rounded.TheVariants.{Whole, Beyond, NotANumber}
use Rattle.doubles.specs.Exact.{signed}
use Rattle.sheet_rules.specs.Sheet.{wrong}
use Rattle.whole_round.specs.Whole.{Nearby, whole_of, held, round_even, right_sign}
use Rattle.whole_round.proofs.Closest.{reaches, of_zero}

pub size_size : (x : Float) → size x ≡ size (size x)
unfolding size
size_size nan = refl
size_size (inf s) = refl
size_size (fin s m e) = refl

pub not_a_number : (limit : ℤ) (x : Float) → ne x x ≡ true → NotANumber ≡ round_even limit x
unfolding round_even
not_a_number limit x h = rw (differs_from_itself x (subst T (sym h) tt))

-- ---- w or Beyond
pub abs_signed : (s : Bool) (n : ℕ) → nat_abs (signed s n) ≡ n
abs_signed false n = refl
abs_signed true zero = refl
abs_signed true (suc n) = refl

pub held_over : (limit : ℤ) (s : Bool) (n : ℕ) (y : Float) → lt_z limit (pos n) ≡ true
    → held limit (signed s n) y ≡ Beyond y
unfolding held
held_over limit s n y h = rw (abs_signed s n, h)

pub held_in : (limit : ℤ) (s : Bool) (n : ℕ) (y : Float) → lt_z limit (pos n) ≡ false
    → held limit (signed s n) y ≡ Whole (signed s n)
unfolding held
held_in limit s n y h = rw (abs_signed s n, h)

-- past every i64
pub past : (limit : ℤ) (n : ℕ) → mag limit < 2 ^ 63 → 2 ^ 63 ≤ n → lt_z limit (pos n) ≡ true
past (pos l) n h k = lt-ltb l n (omega arith)
past (negsuc l) n h k = refl

-- ---- the double x, whose size is below 2 ^ 63 and for which `nearest` found k
abbrev p63 : Float
p63 = fin false 1 (pos 63)

pub record Found (x : Float) (k : ℕ) : Type 0 where
  pub inside : lt (size x) p63 ≡ true
  pub near : Nearby (size x) k

module _ (limit : ℤ) {k : ℕ} where
  pub beyond : {x : Float} → Found x k → lt_z limit (pos k) ≡ true → Beyond x ≡ round_even limit x
  unfolding lt size round_even whole_of
  beyond {x = nan} r h = absurd (true≢false (sym r.inside))
  beyond {x = inf s} r h = refl
  beyond {x = fin s m e} r h = sym (held_over limit s (closest (m * up e) (down e)) (fin s m e) (rw r.near.is at h))

  pub negative : {x : Float} → Found x k → lt_z limit (pos k) ≡ false → lt x (fin false 0 (pos 0)) ≡ true
      → Whole (neg_ℤ (pos k)) ≡ round_even limit x
  unfolding lt size round_even whole_of
  negative {x = nan} r h u = absurd (true≢false (sym u))
  negative {x = inf s} r h u = absurd (true≢false (sym r.inside))
  negative {x = fin false m e} r h u =
      absurd (omega (arith, ltb-true (m * up e * 1) (0 * 1 * down e) u, zero-mul (down e)))
  negative {x = fin true m e} r h u =
      rw r.near.is (sym (held_in limit true (closest (m * up e) (down e)) (fin true m e) (rw r.near.is at h)))

  pub positive : {x : Float} → Found x k → lt_z limit (pos k) ≡ false → lt x (fin false 0 (pos 0)) ≡ false
      → Whole (pos k) ≡ round_even limit x
  unfolding lt size round_even whole_of
  positive {x = nan} r h u = absurd (true≢false (sym r.inside))
  positive {x = inf s} r h u = absurd (true≢false (sym r.inside))
  positive {x = fin false m e} r h u =
      rw r.near.is
      (sym (held_in limit false (closest (m * up e) (down e)) (fin false m e) (rw r.near.is at h)))
  positive {x = fin true zero e} r h u =
      let z : closest (0 * up e) (down e) ≡ 0 = of_zero (up e) (down e) (down_pos e) in
      let w : k ≡ 0 = r.near.is ∙ z in
      rw (z, w) (sym (held_in limit false 0 (fin true zero e) (rw w at h)))
  positive {x = fin true (suc m) e} r h u =
      let some : 0 < suc m = omega arith in
      absurd (omega (arith, ltb-false 0 (suc m * up e * 1 + 0 * 1 * down e) u, mul-pos some (up_pos e)))

pub large : (limit : ℤ) (x : Float) → mag limit < 2 ^ 63 → ne x x ≡ false → lt (size x) p63 ≡ false
    → Beyond x ≡ round_even limit x
unfolding lt size round_even whole_of ne
large limit nan l u t = cc
large limit (inf s) l u t = refl
large limit (fin s m e) l u t =
    sym
    (held_over limit s (closest (m * up e) (down e)) (fin s m e) (past limit _ l (reaches (m * up e) (down e) (2 ^ 63) (down_pos e) (omega (arith, ltb-false (m * up e * 1) (1 * 2 ^ 63 * down e) t)))))

-- ---- what the machine reads
pub test : (limit : ℤ) (k : ℕ) → SFits w64 limit → k < 2 ^ 63
    → lt_z (to_z w64 (of_z w64 limit)) (to_z w64 k) ≡ lt_z limit (pos k)
test limit k f h = rw (to_z-of_z w64 limit f, to_z_pos w64 k h)

pub minus_fits : (k : ℕ) → k < 2 ^ 63 → SFits w64 (pos 0 -ℤ to_z w64 k)
minus_fits k h = rw (to_z_pos w64 k h, +ℤ_idl) (in_range k h)
  where
    in_range : (k : ℕ) → k < 2 ^ 63 → SFits w64 (neg_ℤ (pos k))
    in_range zero h = record { sfits = h }
    in_range (suc k) h = record { sfits = omega arith }

pub minus : (k : ℕ) → k < 2 ^ 63 → to_z w64 (of_z w64 (pos 0 -ℤ to_z w64 k)) ≡ neg_ℤ (pos k)
minus k h =
    to_z-of_z w64 (pos 0 -ℤ to_z w64 k) (minus_fits k h)
    ∙ ap (λ (z : ℤ). pos 0 -ℤ z) (to_z_pos w64 k h)
    ∙ +ℤ_idl (neg_ℤ (pos k))

-- ---- the sign of w, which the machine reads as z
module _ (op : ℕ) {w z : ℤ} {b : Bool} (same : z ≡ w) (asked : b ≡ wrong op z) where
  pub drops : b ≡ true → Whole (pos 0) ≡ right_sign op (Whole w)
  unfolding right_sign
  drops h = rw (← same, ← asked, h)

  pub stays : b ≡ false → Whole z ≡ right_sign op (Whole w)
  unfolding right_sign
  stays h = rw (← same, ← asked, h)
