-- Words of theorems about doubles: the first largest of some, a quotient beside a larger one, and a size beside a whole
-- number. Assumes nothing.
use Rattle.std.specs.Prelude.{◌≡◌, Bool, true, false, ℕ, ◌*◌, ◌<◌, ◌≤◌, Float}
use Rattle.std.specs.Float.Ieee.{lt, le}
use Rattle.std.specs.Float.Ieee.Positive.{num, den}
use Rattle.doubles.specs.Num.{◌⊕◌, ◌⊘◌, finite}

-- 01: "strictly largest wins, first on a tie": of the indices below n that pass, k has the largest key, and none
-- before it has one as large
pub record FirstLargest (test : ℕ → Bool) (key : ℕ → Float) (n k : ℕ) : Type 0 where
  pub inside : k < n
  pub passes : test k ≡ true
  pub largest : (j : ℕ) → j < n → test j ≡ true → lt (key k) (key j) ≡ false
  pub first : (j : ℕ) → j < k → test j ≡ true → le (key k) (key j) ≡ false

-- l / s beside (l + y) / s
pub record Under (l y s : Float) : Type 0 where
  pub first_finite : finite l ≡ true
  pub finite_too : finite (l ⊘ s) ≡ true
  pub no_larger : le (l ⊘ s) ((l ⊕ y) ⊘ s) ≡ true

-- The size of a finite x is the fraction num x / den x exactly. It is n at most, or above n.
pub record Within (n : ℕ) (x : Float) : Type 0 where
  pub is_finite : finite x ≡ true
  pub most : num x ≤ n * den x

pub record Above (n : ℕ) (x : Float) : Type 0 where
  pub is_finite : finite x ≡ true
  pub more : n * den x < num x
