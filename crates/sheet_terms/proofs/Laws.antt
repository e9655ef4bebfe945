-- Laws that the proofs share. Assumes nothing.
use mathlib.Core.Path.{◌≡◌, refl, ap, ◌∙◌}
use mathlib.Core.Bool.{true, false}
use mathlib.Core.List.{List, [], ◌∷◌}
use Prim.Native.Nat.{ℕ, zero, suc, ◌+◌, ◌*◌, ◌≤◌, ◌<◌, ◌^◌}
use native.Mathlib.Nat.{le_antisymm, add-zero, add-suc}
use native.Mathlib.Numerals.{add-one}
use native.Mathlib.Omega.{arith}
use lib.ListN.{length, set}
use lib.IntN.{ℤ, pos, nat_abs, ◌+ℤ◌, ◌*ℤ◌, zero-*ℤ, +ℤ_idr}
use lib.Dec.{T, ltb, ltb→lt}
use lib.Signed.{lt_z, le_z}
use mir.Syntax.{w64}
use mir.Val.{SFits}
use mir.ValLaws.{to_z-of_z}
use Rattle.doubles.specs.Limits.{max_columns}
use Rattle.doubles.specs.Loop.{run, all}
use Rattle.doubles.specs.Lists.{over}
use Rattle.doubles.proofs.Loops.{both_true}
use Rattle.sheet_rules.specs.Sum.{◌‼◌, sum, dot}
use Rattle.sheet_rules.specs.Verdict.{is_zero}
use Rattle.sheet_rules.proofs.Sizes.{abs_add, mul_size, up_to}
use Rattle.sheet_rules.proofs.Tests.{zero_decides}
use Rattle.sheet_rules.specs.Sheet.{holds, wrong}
use Rattle.sheet_rules.specs.Opening.{bound_fine}
use Rattle.sheet_terms.specs.Small.{Small}
use Rattle.sheet_terms.proofs.Machine.{word, fits}

-- one term more of a sum, at the code's k + 1
pub sum_next : (f : ℕ → ℤ) (k : ℕ) (r : ℤ) → r ≡ sum k f → r +ℤ f k ≡ sum (k + 1) f
unfolding sum run
sum_next f k r e = rw (e, add-one)

pub sum_done : (f : ℕ → ℤ) (k n : ℕ) (r : ℤ) → k ≤ n → n ≤ k → r ≡ sum k f → r ≡ sum n f
sum_done f k n r a b e = e ∙ ap (λ (j : ℕ). sum j f) (le_antisymm a b)

-- a stretch of zeros adds nothing
pub pass_zeros : (a x : List ℤ) (j m : ℕ) → all m (λ k. is_zero (a ‼ (j + k))) ≡ true
    → sum (j + m) (λ k. a ‼ k *ℤ x ‼ k) ≡ sum j (λ k. a ‼ k *ℤ x ‼ k)
unfolding all sum run
pass_zeros a x j zero e = rw (add-zero j)
pass_zeros a x j (suc m) e =
    let b = both_true _ _ e in
    let none = (zero_decides (a ‼ (j + m))).yes_so b.1 in
    rw (add-suc j m, none, zero-*ℤ (x ‼ (j + m)), pass_zeros a x j m b.0) (+ℤ_idr _)

-- a turn of a loop that sums at most N terms, each of size at most M: the sum `total` so far and this turn's term, as the machine has it
pub record Turn (f : ℕ → ℤ) (k : ℕ) (total t : ℤ) : Type 0 where
  pub add_fits : SFits w64 (total +ℤ t)
  pub is : word (total +ℤ t) ≡ sum (k + 1) f

pub turn : (N M n : ℕ) (f : ℕ → ℤ) (k : ℕ) (total t : ℤ) → T (ltb (N * M + M) (2 ^ 63)) → n ≤ N → k < n → ((j : ℕ) → j < n → nat_abs (f j) ≤ M) → total ≡ sum k f → t ≡ f k → Turn f k total t
turn N M n f k total t w few l small e q =
    let so_far : nat_abs total ≤ N * M = rw e (up_to N M k f (omega arith) (λ j p. small j (omega arith))) in
    let one : nat_abs t ≤ M = rw q (small k l) in
    let f-it : SFits w64 (total +ℤ t) = fits (total +ℤ t) (N * M + M) (omega (arith, abs_add total t)) (ltb→lt _ _ w) in
    record { add_fits = f-it; is = to_z-of_z w64 (total +ℤ t) f-it ∙ ap (λ (z : ℤ). total +ℤ z) q ∙ sum_next f k total e }

-- the first j of n products, of small numbers
pub dot_small : (a b n j : ℕ) (l k : List ℤ) → n ≤ max_columns → Small a n l → Small b n k → j ≤ n
    → nat_abs (dot j (λ i. l ‼ i) (λ i. k ‼ i)) ≤ max_columns * (a * b)
dot_small a b n j l k few p q h =
    up_to max_columns (a * b) j (λ i. l ‼ i *ℤ k ‼ i) (omega arith)
    (λ i w. mul_size (l ‼ i) (k ‼ i) a b (p.at i (omega arith)) (q.at i (omega arith)))

-- a comparison that is neither Le nor Eq
pub holds_other : (op : ℕ) (r b : ℤ) → (op ≡ 0 → ⊥) → (op ≡ 1 → ⊥) → holds op r b ≡ le_z b r
unfolding holds
holds_other zero r b h k = absurd (h refl)
holds_other (suc zero) r b h k = absurd (k refl)
holds_other (suc (suc n)) r b h k = refl

pub wrong_other : (op : ℕ) (y : ℤ) → (op ≡ 0 → ⊥) → (op ≡ 1 → ⊥) → wrong op y ≡ lt_z y (pos 0)
unfolding wrong
wrong_other zero y h k = absurd (h refl)
wrong_other (suc zero) y h k = absurd (k refl)
wrong_other (suc (suc n)) y h k = refl

-- a mark that is neither 0 nor 1
pub bound_other : (mark : ℕ) (z : ℤ) → (mark ≡ 0 → ⊥) → (mark ≡ 1 → ⊥) → bound_fine mark z ≡ false
unfolding bound_fine
bound_other zero z h k = absurd (h refl)
bound_other (suc zero) z h k = absurd (k refl)
bound_other (suc (suc n)) z h k = refl

-- ---- stores at the front
pub set_one : (l : List ℤ) (v : ℤ) → 1 ≤ length l → set l 0 v ≡ over (v ∷ []) l
set_one [] v h = absurd (omega (arith, h))
set_one (x ∷ l) v h = refl

pub set_four : (l : List ℤ) (a b c d : ℤ) → 4 ≤ length l → set (set (set (set l 0 a) 1 b) 2 c) 3 d ≡ over (a ∷ b ∷ c ∷ d ∷ []) l
set_four [] a b c d h = absurd (omega (arith, h))
set_four (_ ∷ []) a b c d h = absurd (omega (arith, h))
set_four (_ ∷ _ ∷ []) a b c d h = absurd (omega (arith, h))
set_four (_ ∷ _ ∷ _ ∷ []) a b c d h = absurd (omega (arith, h))
set_four (_ ∷ _ ∷ _ ∷ _ ∷ l) a b c d h = refl
