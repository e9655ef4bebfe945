-- The one loop vocabulary. Each loop of the code is one of these, and the laws of each are proved once, in proofs/Loops.antt. Assumes nothing.
use Rattle.std.specs.Prelude.{Bool, true, false, ◌&&◌, List, [], ◌∷◌, ℕ, zero, suc}

-- `run step k s`: s after the turns 0, 1, .. k - 1; `down step k s`: after the turns k - 1, .. 1, 0
module _ {S : Type 0} (step : ℕ → S → S) where
  unfoldable pub run : ℕ → S → S
  run zero s = s
  run (suc k) s = step k (run k s)

  unfoldable pub down : ℕ → S → S
  down zero s = s
  down (suc k) s = down k (step k s)

-- every index below n passes
unfoldable pub all : ℕ → (ℕ → Bool) → Bool
all zero p = true
all (suc k) p = all k p && p k

-- the first index that passes, of the n from i on, and i + n where none does
unfoldable pub seek : ℕ → ℕ → (ℕ → Bool) → ℕ
seek zero i p = i
seek (suc n) i p = elim (p i) [ true ↦ i | false ↦ seek n (suc i) p ]

abbrev pub first : ℕ → (ℕ → Bool) → ℕ
first n p = seek n 0 p

-- f i, f (i + 1), ..: n of them; `table n f`: f 0, .. f (n - 1)
unfoldable pub tab : {A : Type 0} → ℕ → ℕ → (ℕ → A) → List A
tab zero i f = []
tab (suc n) i f = f i ∷ tab n (suc i) f

abbrev pub table : {A : Type 0} → ℕ → (ℕ → A) → List A
table n f = tab n 0 f

-- a loop with a budget of k turns: a turn ends it or gives the next state, and `last` is asked where the budget is spent
pub data Next (S R : Type 0) : Type 0 where
  done : R → Next S R
  more : S → Next S R

unfoldable pub until : {S R : Type 0} → (S → Next S R) → (S → R) → ℕ → S → R
until turn last zero s = last s
until turn last (suc k) s = elim (turn s) [ done r ↦ r | more t ↦ until turn last k t ]

-- a loop over a list
unfoldable pub each : {A S : Type 0} → List A → (A → S → S) → S → S
each [] f s = s
each (x ∷ xs) f s = each xs f (f x s)
