-- The laws of sums, over any terms. Assumes nothing.
use mathlib.Core.Path.{◌≡◌, refl, sym, ap, ◌∙◌, subst}
use mathlib.Core.Logic.{◌⊎◌, inl, inr, ⊎_elim}
use mathlib.Core.Bool.{Bool, true, false}
use Prim.Native.Nat.{ℕ, zero, suc, ◌+◌, ◌<◌}
use native.Mathlib.Nat.{eq-or-lt_of_le, le_of_suc-le-suc}
use native.Mathlib.Omega.{arith}
use lib.IntN.{ℤ, pos, negsuc, ◌+ℤ◌, ◌-ℤ◌, ◌*ℤ◌, +ℤ_idl, +ℤ_idr, +ℤ_invr, *ℤ-zero, nat_abs}
use lib.Signed.{◌≤ℤ◌, ≤ℤ_refl}
use lib.Dec.{eqb}
use borrow.Author.Tests.{eqb-true, eqb-false}
use Rattle.doubles.specs.Loop.{run}
use Rattle.sheet_rules.specs.Sum.{sum, bit, count}
use Rattle.sheet_rules.proofs.Ring.{mul_add, add_swap, add_le_add, add_change, add_right_comm, add_left_comm, nonneg}

pub sum_ext : (n : ℕ) (f g : ℕ → ℤ) → ((j : ℕ) → j < n → f j ≡ g j) → sum n f ≡ sum n g
unfolding sum run
sum_ext zero f g h = refl
sum_ext (suc n) f g h = ap (λ (x : ℤ). x +ℤ f n) (sum_ext n f g (λ j l. h j (omega arith))) ∙ ap (λ (x : ℤ). sum n g +ℤ x) (h n (omega arith))

pub sum_none : (n : ℕ) → sum n (λ _. pos 0) ≡ pos 0
unfolding sum run
sum_none zero = refl
sum_none (suc n) = +ℤ_idr (sum n (λ _. pos 0)) ∙ sum_none n

pub sum_add : (n : ℕ) (f g : ℕ → ℤ) → sum n (λ j. f j +ℤ g j) ≡ sum n f +ℤ sum n g
unfolding sum run
sum_add zero f g = refl
sum_add (suc n) f g = ap (λ (x : ℤ). x +ℤ (f n +ℤ g n)) (sum_add n f g) ∙ add_swap (sum n f) (sum n g) (f n) (g n)

pub sum_mul : (d : ℤ) (n : ℕ) (f : ℕ → ℤ) → sum n (λ j. d *ℤ f j) ≡ d *ℤ sum n f
unfolding sum run
sum_mul d zero f = sym (*ℤ-zero d)
sum_mul d (suc n) f = ap (λ (x : ℤ). x +ℤ d *ℤ f n) (sum_mul d n f) ∙ sym (mul_add d (sum n f) (f n))

-- the order of two sums is exchanged
pub sum_swap : (m n : ℕ) (f : ℕ → ℕ → ℤ) → sum m (λ i. sum n (λ j. f i j)) ≡ sum n (λ j. sum m (λ i. f i j))
unfolding sum run
sum_swap zero n f = sym (sum_none n)
sum_swap (suc m) n f = ap (λ (x : ℤ). x +ℤ sum n (λ j. f m j)) (sum_swap m n f) ∙ sym (sum_add n (λ j. sum m (λ i. f i j)) (λ j. f m j))

pub sum_mono : (n : ℕ) (f g : ℕ → ℤ) → ((j : ℕ) → j < n → f j ≤ℤ g j) → sum n f ≤ℤ sum n g
unfolding sum run
sum_mono zero f g h = ≤ℤ_refl (pos 0)
sum_mono (suc n) f g h = add_le_add (sum_mono n f g (λ j l. h j (omega arith))) (h n (omega arith))

-- one term changes: the sum moves by the change in that term
pub sum_change : (n : ℕ) (f g : ℕ → ℤ) (k : ℕ) → k < n → ((j : ℕ) → j < n → (j ≡ k → ⊥) → g j ≡ f j) → sum n g ≡ sum n f +ℤ (g k -ℤ f k)
unfolding sum run
sum_change zero f g k l h = absurd (no l)
  where
    no : k < 0 → ⊥
    no p = omega arith
sum_change (suc n) f g k l h = ⊎_elim last (λ p. before p (sum_change n f g k p (λ j q. h j (omega arith)))) (eq-or-lt_of_le (le_of_suc-le-suc l))
  where
    last : k ≡ n → sum n g +ℤ g n ≡ sum n f +ℤ f n +ℤ (g k -ℤ f k)
    last e = rw (e, sum_ext n g f (λ j q. h j (omega arith) (λ w. ne j q w))) (add_change (sum n f) (f n) (g n))
      where
        ne : (j : ℕ) → j < n → j ≡ k → ⊥
        ne j q w = omega arith

    before : k < n → sum n g ≡ sum n f +ℤ (g k -ℤ f k) → sum n g +ℤ g n ≡ sum n f +ℤ f n +ℤ (g k -ℤ f k)
    before p ih = rw (ih, h n (omega arith) ne) (add_right_comm (sum n f) (g k -ℤ f k) (f n))
      where
        ne : n ≡ k → ⊥
        ne w = omega arith

pub count_nonneg : (n : ℕ) (t : ℕ → Bool) → pos 0 ≤ℤ count n t
unfolding bit
count_nonneg n t = subst (λ (z : ℤ). z ≤ℤ count n t) (sum_none n) (sum_mono n (λ _. pos 0) (λ i. bit (t i)) (λ j _. at (t j)))
  where
    at : (b : Bool) → pos 0 ≤ℤ bit b
    at true = nonneg 1
    at false = nonneg 0

-- where a count is 0, no number below n passes
pub count_zero : (n : ℕ) (t : ℕ → Bool) → count n t ≡ pos 0 → (i : ℕ) → i < n → t i ≡ false
unfolding sum run bit
count_zero zero t e i l = absurd (no l)
  where
    no : i < 0 → ⊥
    no p = omega arith
count_zero (suc n) t e i l = ⊎_elim (λ q. subst (λ (k : ℕ). t k ≡ false) (sym q) (here (t n) (count n t) (count_nonneg n t) e).0) (λ q. count_zero n t (here (t n) (count n t) (count_nonneg n t) e).1 i q) (eq-or-lt_of_le (le_of_suc-le-suc l))
  where
    no : (k : ℕ) → k + 1 ≡ 0 → ⊥
    no k q = omega arith

    here : (b : Bool) (s : ℤ) → pos 0 ≤ℤ s → s +ℤ bit b ≡ pos 0 → (b ≡ false) × (s ≡ pos 0)
    here true (pos k) h w = absurd (no k (ap nat_abs w))
    here true (negsuc k) h w = absurd h.le
    here false s h w = (refl, sym (+ℤ_idr s) ∙ w)

-- ---- what changes: the sum of the changes in the terms
-- a + (b - a) = b
pub moved_to : (a b : ℤ) → a +ℤ (b -ℤ a) ≡ b
moved_to a b = add_left_comm a b _ ∙ ap (λ (z : ℤ). b +ℤ z) (+ℤ_invr a) ∙ +ℤ_idr b

-- a sum moves by the change in its terms
pub sum_moves : (n : ℕ) (f g : ℕ → ℤ) → sum n f +ℤ sum n (λ k. g k -ℤ f k) ≡ sum n g
sum_moves n f g = sym (sum_add n f (λ k. g k -ℤ f k)) ∙ sum_ext n (λ k. f k +ℤ (g k -ℤ f k)) g (λ k _. moved_to (f k) (g k))

-- the same where the changes are read from terms that are the right ones
pub sum_moves_by : (n : ℕ) (f g f' g' : ℕ → ℤ) → ((j : ℕ) → j < n → f j ≡ f' j) → ((j : ℕ) → j < n → g j ≡ g' j) → sum n f' +ℤ sum n (λ j. g j -ℤ f j) ≡ sum n g'
sum_moves_by n f g f' g' p q = ap (λ (z : ℤ). z +ℤ sum n (λ j. g j -ℤ f j)) (sym (sum_ext n f f' p)) ∙ sum_moves n f g ∙ sum_ext n g g' q

-- where no term changes there is no change
pub change_none : (n : ℕ) (f g : ℕ → ℤ) → ((j : ℕ) → j < n → g j ≡ f j) → sum n (λ k. g k -ℤ f k) ≡ pos 0
change_none n f g h = sum_ext n (λ k. g k -ℤ f k) (λ _. pos 0) (λ j l. ap (λ (z : ℤ). z -ℤ f j) (h j l) ∙ +ℤ_invr (f j)) ∙ sum_none n

-- where one term alone changes the change is that term's
pub change_one : (n : ℕ) (f g : ℕ → ℤ) (k : ℕ) → k < n → ((j : ℕ) → j < n → (j ≡ k → ⊥) → g j ≡ f j) → sum n (λ j. g j -ℤ f j) ≡ g k -ℤ f k
change_one n f g k l h =
    sum_change n (λ _. pos 0) (λ j. g j -ℤ f j) k l (λ j p ne. ap (λ (z : ℤ). z -ℤ f j) (h j p ne) ∙ +ℤ_invr (f j))
    ∙ ap (λ (z : ℤ). z +ℤ (g k -ℤ f k -ℤ pos 0)) (sum_none n) ∙ +ℤ_idl (g k -ℤ f k -ℤ pos 0) ∙ +ℤ_idr (g k -ℤ f k)

-- where at most the term at c changes, which may stand past the sum, the sum moves by that term's change
pub sum_local : (n c : ℕ) (f g : ℕ → ℤ) → ((j : ℕ) → j < n → (j ≡ c → ⊥) → g j ≡ f j) → (c < n) ⊎ (g c ≡ f c) → sum n f +ℤ (g c -ℤ f c) ≡ sum n g
sum_local n c f g still (inl l) = sym (sum_change n f g c l still)
sum_local n c f g still (inr e) = rw (e, +ℤ_invr (f c), +ℤ_idr (sum n f)) (sum_ext n f g (λ j l. sym (at j l (eqb j c) refl)))
  where
    at : (j : ℕ) → j < n → (b : Bool) → eqb j c ≡ b → g j ≡ f j
    at j l true w = rw (eqb-true j c w) e
    at j l false w = still j l (eqb-false j c w)
