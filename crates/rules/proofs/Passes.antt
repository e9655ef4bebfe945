-- What the second pass of a ratio means, of a column's rows or of a row's columns: a loop over a list that keeps the
-- candidate of the largest size. Assumes nothing.
use mathlib.Core.Path.{◌≡◌, refl, subst}
use mathlib.Core.Bool.{Bool, true, false, ◌&&◌}
use mathlib.Core.Logic.{◌↔◌}
use Prim.Native.Nat.{ℕ, ◌<◌, ◌≤◌}
use native.Mathlib.Omega.{arith}
use lib.Ieee.{Float, nan, inf, fin, div, eq, lt, le}
use Rattle.doubles.specs.Num.{◌⊘◌, -inf, size}
use Rattle.doubles.specs.Loop.{run}
use Rattle.doubles.specs.Words.{FirstLargest}
use Rattle.doubles.proofs.Tests.{not_both}
use Rattle.doubles.proofs.Order.{lt_number}
use Rattle.doubles.proofs.Largest.{Best, kept, took, best, above, at_least, by_above, only_one}
use Rattle.rules.specs.Ratio.{Leaving, leaving_of}

-- what is divided by a NaN is in no order
pub quotient_number : (l a t : Float) → le (l ⊘ size a) t ≡ true → lt -inf (size a) ≡ true
unfolding le lt eq div size
quotient_number nan nan t h = cc
quotient_number (inf s) nan t h = cc
quotient_number (fin s m e) nan t h = cc
quotient_number l (inf s) t h = refl
quotient_number l (fin s m e) t h = refl

-- n listed places, which of them are candidates, and the sizes that are compared: no candidate's is NaN
module _ (n : ℕ) (candidate : ℕ → Bool) (key : ℕ → Float) (number : (k : ℕ) → candidate k ≡ true → lt -inf (key k) ≡ true) where
  abbrev pub Wins : ℕ → Type 0
  Wins k = FirstLargest candidate key n k

  abbrev pub NoneIs : Type 0
  NoneIs = (k : ℕ) → k < n → candidate k ≡ true → ⊥

  pub data Left : Leaving → Type 0 where
    one : (k : ℕ) → Wins k → Left (leaving_of k (key k))
    none : NoneIs → Left (leaving_of n -inf)

  pub left : (turn : ℕ → Leaving → Leaving)
      → ((k : ℕ) (b : Leaving) → turn k b ≡ elim (candidate k && lt b.size (key k)) [ true ↦ leaving_of k (key k) | false ↦ b ])
      → Left (run turn n (leaving_of n -inf))
  left turn is = go (run turn n (leaving_of n -inf)) (best by_above candidate key (λ b. b.size) (λ k. leaving_of k (key k)) (λ k. refl) turn is (leaving_of n -inf) n)
    where
      go : (b : Leaving) → Best above at_least candidate key (λ k. leaving_of k (key k)) -inf (leaving_of n -inf) n b → Left b
      go _ (kept h) = none (λ k l t. not_both (number k t) (h k l t))
      go _ (took k l t a h f) = one k (record { inside = l; passes = t; largest = h; first = f })

  pub wins_exactly : {b : Leaving} → Left b → (k : ℕ) → k < n → b.at ≡ k ↔ Wins k
  wins_exactly (one j x) k l =
      (λ q. subst Wins q x, λ y. only_one x y (lt_number _ _ (number j x.passes)) (lt_number _ _ (number k y.passes)))
  wins_exactly (none h) k l = (λ q. absurd (omega arith), λ y. absurd (h k l y.passes))

  pub none_exactly : {b : Leaving} → Left b → b.at ≡ n ↔ NoneIs
  none_exactly (one k x) = (λ q. absurd (omega (arith, x.inside)), λ h. absurd (h k x.inside x.passes))
  none_exactly (none h) = (λ q. h, λ g. refl)

  pub at_most : {b : Leaving} → Left b → b.at ≤ n
  at_most (one k x) = omega (arith, x.inside)
  at_most (none h) = omega arith
