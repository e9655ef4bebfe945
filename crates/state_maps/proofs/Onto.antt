-- The pigeonhole: where every number below N has an image below N that leads back, each number below N is an image.
-- Assumes nothing.
use mathlib.Core.Path.{◌≡◌, refl, sym, ap, ◌∙◌}
use mathlib.Core.Logic.{⊎_elim}
use mathlib.Core.Bool.{Bool, true, false}
use Prim.Native.Nat.{ℕ, zero, suc, ◌<◌}
use native.Mathlib.Omega.{arith}
use lib.Dec.{eqb}
use borrow.Author.Tests.{eqb-true, eqb-false}
use Rattle.doubles.proofs.Bools.{same?}

-- f takes the numbers below k to numbers below N, no two to the same
record Into (k N : ℕ) (f : ℕ → ℕ) : Type 0 where
  below : (i : ℕ) → i < k → f i < N
  once : (i j : ℕ) → i < k → j < k → f i ≡ f j → i ≡ j

-- a where x is M
abbrev swap : ℕ → ℕ → ℕ → ℕ → ℕ
swap x M a y = elim (eqb x M) [ true ↦ a | false ↦ y ]

at_swap : (P : ℕ → Type 0) (x M a y : ℕ) → (x ≡ M → P a) → ((x ≡ M → ⊥) → P y) → P (swap x M a y)
at_swap P x M a y h k = go (eqb x M) (eqb-true x M) (eqb-false x M)
  where
    go : (b : Bool) → (b ≡ true → x ≡ M) → (b ≡ false → x ≡ M → ⊥) → P (elim b [ true ↦ a | false ↦ y ])
    go true e f = h (e refl)
    go false e f = k (f refl)

-- of suc (suc N) numbers the last is taken away, and what went to N goes to that one's image
module _ (N : ℕ) (f : ℕ → ℕ) (h : Into (suc (suc N)) (suc N) f) where
  abbrev last : ℕ
  last = f (suc N)

  abbrev f' : ℕ → ℕ
  f' i = swap (f i) N last (f i)

  last_fits : (i : ℕ) → i < suc N → f i ≡ N → last < N
  last_fits i l e =
      let other : ¬ (last ≡ N) = λ q. omega (arith, h.once i (suc N) (omega arith) (omega arith) (e ∙ sym q)) in
      omega (arith, h.below (suc N) (omega arith))

  fits : (i : ℕ) → i < suc N → f' i < N
  fits i l = at_swap (λ x. x < N) (f i) N last (f i) (last_fits i l) (λ e. omega (arith, h.below i (omega arith)))

  same : (i j : ℕ) → i < suc N → j < suc N → f' i ≡ f' j → i ≡ j
  same i j l k =
      at_swap (λ x. x ≡ f' j → i ≡ j) (f i) N last (f i)
      (λ e. at_swap (λ y. last ≡ y → i ≡ j) (f j) N last (f j)
      (λ g q. h.once i j (omega arith) (omega arith) (e ∙ sym g))
      (λ g q. absurd (omega (arith, h.once (suc N) j (omega arith) (omega arith) q))))
      (λ e. at_swap (λ y. f i ≡ y → i ≡ j) (f j) N last (f j)
      (λ g q. absurd (omega (arith, h.once i (suc N) (omega arith) (omega arith) q)))
      (λ g q. h.once i j (omega arith) (omega arith) q))

  fewer : Into (suc N) N f'
  fewer = record { below = fits; once = same }

too_many : (N : ℕ) (f : ℕ → ℕ) → Into (suc N) N f → ⊥
too_many zero f h = omega (arith, h.below 0 (omega arith))
too_many (suc N) f h = too_many N (f' N f h) (fewer N f h)

-- f leads to numbers below N, and g back
module _ (N : ℕ) (f g : ℕ → ℕ) (below : (i : ℕ) → i < N → f i < N) (back : (i : ℕ) → i < N → g (f i) ≡ i) where
  -- were v no image it would be one more
  module _ (v : ℕ) (l : v < N) (none : (i : ℕ) → i < N → ¬ (f i ≡ v)) where
    abbrev more : ℕ → ℕ
    more i = swap i N v (f i)

    inside : (i : ℕ) → (i ≡ N → ⊥) → i < suc N → i < N
    inside i e k = omega arith

    apart : (i j : ℕ) → i < suc N → j < suc N → more i ≡ more j → i ≡ j
    apart i j k m =
        at_swap (λ x. x ≡ more j → i ≡ j) i N v (f i)
        (λ e. at_swap (λ y. v ≡ y → i ≡ j) j N v (f j)
        (λ d q. e ∙ sym d)
        (λ d q. absurd (none j (inside j d m) (sym q))))
        (λ e. at_swap (λ y. f i ≡ y → i ≡ j) j N v (f j)
        (λ d q. absurd (none i (inside i e k) q))
        (λ d q. sym (back i (inside i e k)) ∙ ap g q ∙ back j (inside j d m)))

    one_more : Into (suc N) N more
    one_more =
        record {
          below = λ i k. at_swap (λ x. x < N) i N v (f i) (λ e. l) (λ e. below i (inside i e k));
          once = apart;
        }

  pub onto : (v : ℕ) → v < N → g v < N → f (g v) ≡ v
  onto v l c =
      ⊎_elim (λ e. e)
      (λ e. absurd (too_many N (more v l (none v e)) (one_more v l (none v e))))
      (same? (f (g v)) v)
    where
      none : (v : ℕ) → (f (g v) ≡ v → ⊥) → (i : ℕ) → i < N → ¬ (f i ≡ v)
      none v e i k q = e (ap (λ (x : ℕ). f (g x)) (sym q) ∙ ap f (back i k) ∙ q)
