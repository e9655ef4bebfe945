-- "(Its size is at most 1, so it is finite: a lemma ..)": a finite number over one that is at least as large in size,
-- and not 0. Assumes nothing.
use mathlib.Core.Path.{◌≡◌, refl}
use mathlib.Core.Bool.{Bool, true, false}
use Prim.Native.Nat.{ℕ, zero, suc, ◌*◌, ◌<◌, ◌≤◌}
use native.Mathlib.Nat.{zero-mul, one-mul, mul-pos}
use native.Mathlib.Omega.{arith}
use borrow.Author.Tests.{ltb-true, ltb-false}
use lib.Dec.{eqb-suc-zero}
use lib.IntN.{ℤ}
use lib.Ieee.{Float, nan, inf, fin, binary64, up, down, round, unlike, div, lt, le, of_bits}
use lib.Ieee.Fits.{up_pos, down_pos}
use Rattle.doubles.specs.Num.{◌⊘◌, f0, eps, finite, size}
use Rattle.doubles.specs.Words.{Within}
use Rattle.doubles.proofs.Tests.{not_both}
use Rattle.doubles.proofs.Bounds.{double, rounded}
use Rattle.lu_factor_rules.proofs.Choice.{eps_above}

divided : (s : Bool) (m : ℕ) (e : ℤ) (t : Bool) (k : ℕ) (d : ℤ)
    → fin s m e ⊘ fin t (suc k) d ≡ round binary64 (unlike s t) (m * up e * down d) (suc k * up d * down e)
unfolding div
divided s m e t k d = rw (eqb-suc-zero k)

-- 1 is a double, so what is at most 1 is rounded to what is
fraction : (s : Bool) (a b : ℕ) → 0 < b → a ≤ b → Within 1 (round binary64 s a b)
fraction s a b h l = rounded (double 1 0 (omega arith) (omega arith)) s a b h (rw (one-mul b) l)

pub quotient : (x y : Float) → finite x ≡ true → finite y ≡ true → le eps (size y) ≡ true → lt (size y) (size x) ≡ false
    → Within 1 (x ⊘ y)
unfolding finite lt size of_bits
quotient x y f g p l = go x y f g (eps_above (size y) p) l
  where
    go : (x y : Float) → finite x ≡ true → finite y ≡ true → lt f0 (size y) ≡ true → lt (size y) (size x) ≡ false
        → Within 1 (x ⊘ y)
    go nan y f g p l = absurd (not_both f refl)
    go (inf s) y f g p l = absurd (not_both f refl)
    go (fin s m e) nan f g p l = absurd (not_both g refl)
    go (fin s m e) (inf t) f g p l = absurd (not_both g refl)
    go (fin s m e) (fin t zero d) f g p l = absurd (omega (
      arith,
      ltb-true (0 * 1 * down d) (0 * up d * 1) p,
      zero-mul
          (up d),
    ))
    go (fin s m e) (fin t (suc k) d) f g p l =
        rw (divided s m e t k d)
        (fraction (unlike s t) (m * up e * down d) (suc k * up d * down e)
        (mul-pos (mul-pos (omega arith) (up_pos d)) (down_pos e))
        (ltb-false (suc k * up d * down e) (m * up e * down d) l))
