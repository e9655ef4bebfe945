-- "the same numbers in doubles" (02, Ask 14): a whole number of size up to 2 ^ 53 is its double's exact value, and
-- every number of a plan that the sheet accepts is far below. Assumes nothing.
use mathlib.Core.Path.{◌≡◌, refl, sym, ap, ◌∙◌}
use mathlib.Core.Bool.{Bool, true, false}
use Prim.Native.Nat.{ℕ, suc, ◌+◌, ◌*◌, ◌^◌, ◌<◌, ◌≤◌}
use native.Mathlib.Nat.{mul-one, le_trans}
use lib.Dec.{lit≤}
use lib.IntN.{ℤ, pos, negsuc, neg_ℤ, nat_abs, ◌*ℤ◌, pos-*ℤ-pos}
use lib.Ieee.{Float, fin, binary64, up, down, round, of_int}
use lib.Ieee.Exact.{HasValue}
use lib.Ieee.Back.{round_whole}
use Rattle.doubles.specs.Num.{finite}
use Rattle.doubles.specs.Exact.{signed, significand, exponent}
use Rattle.sheet_rules.specs.Sheet.{Plan, Sheet, a, c, lower, upper, rhs}
use Rattle.sheet_rules.specs.Opening.{opening}
use Rattle.sheet_rules.proofs.Ring.{neg_mul}
use Rattle.sheet_rules.proofs.Exact.{opening_so}
use Rattle.sheet_rules.proofs.Local.{place_in}
use Rattle.night_rules.specs.Doubles.{as_double}

-- the exact value of x is z
pub record IsExactly (x : Float) (z : ℤ) : Type 0 where
  pub is_finite : finite x ≡ true
  pub same_value : significand x *ℤ pos (up (exponent x)) ≡ z *ℤ pos (down (exponent x))

by_value : (x : Float) (s : Bool) (n : ℕ) → HasValue x s n 1 → IsExactly x (signed s n)
unfolding finite
by_value lib.Ieee.nan s n h = elim h [ ]
by_value (lib.Ieee.inf _) s n h = elim h [ ]
by_value (fin t m e) s n h =
    record { is_finite = refl; same_value = ap (λ (b : Bool). signed b m *ℤ pos (up e)) h.0 ∙ go s }
  where
    sizes : pos m *ℤ pos (up e) ≡ pos n *ℤ pos (down e)
    sizes = pos-*ℤ-pos m (up e) ∙ ap pos (sym (mul-one (m * up e)) ∙ h.1) ∙ sym (pos-*ℤ-pos n (down e))

    go : (b : Bool) → signed b m *ℤ pos (up e) ≡ signed b n *ℤ pos (down e)
    go false = sizes
    go true = neg_mul (pos m) (pos (up e)) ∙ ap neg_ℤ sizes ∙ sym (neg_mul (pos n) (pos (down e)))

pub exact : (z : ℤ) → nat_abs z ≤ 2 ^ 53 → IsExactly (as_double z) z
unfolding of_int
exact (pos n) h = by_value (round binary64 false n 1) false n (round_whole binary64 false n h)
exact (negsuc n) h = by_value (round binary64 true (suc n) 1) true (suc n) (round_whole binary64 true (suc n) h)

-- ---- a plan that the sheet accepts is handed over with the same numbers
pub record SameNumbers (p : Plan) : Type 0 where
  pub costs_same : (j : ℕ) → j < p.cols → IsExactly (as_double (c p j)) (c p j)
  pub coefs_same : (i j : ℕ) → i < p.rows → j < p.cols → IsExactly (as_double (a p i j)) (a p i j)
  pub lowers_same : (j : ℕ) → j < p.cols → IsExactly (as_double (lower p j)) (lower p j)
  pub uppers_same : (j : ℕ) → j < p.cols → IsExactly (as_double (upper p j)) (upper p j)
  pub rhs_same : (i : ℕ) → i < p.rows → IsExactly (as_double (rhs p i)) (rhs p i)

small : {m : ℕ} (z : ℤ) → nat_abs z ≤ m → m ≤ 2 ^ 53 → IsExactly (as_double z) z
small z h g = exact z (le_trans h g)

pub same_numbers : (s : Sheet) → opening s ≡ 0 → SameNumbers s.plan
same_numbers s e =
    let p = s.plan in
    let l = (opening_so s e).1 in
    let k = l.arrays_in in
    record {
      costs_same = λ j h. small (c p j) (k.costs_in j h) (lit≤ tt);
      coefs_same = λ i j h g. small (a p i j) (l.coefs_in (i * p.cols + j) (place_in i p.rows j p.cols h g))
          (lit≤ tt);
      lowers_same = λ j h. small (lower p j) (k.lowers_in j h).small (lit≤ tt);
      uppers_same = λ j h. small (upper p j) (k.uppers_in j h).small (lit≤ tt);
      rhs_same = λ i h. small (rhs p i) (k.rhs_in i h) (lit≤ tt);
    }
