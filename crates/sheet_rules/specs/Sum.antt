-- Sums of whole numbers. Assumes nothing.
use Rattle.std.specs.Prelude.{Bool, true, false, List, ℕ, get_or, ℤ, pos, ◌+ℤ◌, ◌*ℤ◌}
use Rattle.doubles.specs.Loop.{run}

infixl 90 ◌‼◌
-- a number of a lent array
abbrev pub ◌‼◌ : List ℤ → ℕ → ℤ
l ‼ i = get_or l i (pos 0)

-- f 0 + f 1 + .. + f (n - 1)
unfoldable pub sum : ℕ → (ℕ → ℤ) → ℤ
sum n f = run (λ k s. s +ℤ f k) n (pos 0)

-- the sum of the products f k * g k
abbrev pub dot : ℕ → (ℕ → ℤ) → (ℕ → ℤ) → ℤ
dot n f g = sum n (λ k. f k *ℤ g k)

-- how many numbers below n pass
unfoldable pub bit : Bool → ℤ
bit true = pos 1
bit false = pos 0

abbrev pub count : ℕ → (ℕ → Bool) → ℤ
count n t = sum n (λ k. bit (t k))
