-- What the list holds after an accepted sparse solve: the given places where they were, then the newly visited ones in finishing order; all that the walk
-- reaches from a listed place, no other, and none twice. Assumes nothing.
use Rattle.std.specs.Prelude.{◌≡◌, Bool, true, false, List, [], ◌∷◌, ◌++◌, ℕ, ◌<◌, take}
use Rattle.doubles.specs.Lists.{◌#◌}
use Rattle.lu_walk.specs.Walk.{Shape, graph_of}
use Rattle.lu_walk.specs.Order.{stored, among, Walked, Reach}

-- the places of d that do not stand in l, in order
abbrev pub unless_in : Bool → ℕ → List ℕ → List ℕ
unless_in true p d = d
unless_in false p d = p ∷ d

unfoldable pub others : List ℕ → List ℕ → List ℕ
others l [] = []
others l (p ∷ d) = unless_in (among p l) p (others l d)

-- the first `many` cells of the list l, where n places were given in l₀
pub record Listing (t : Shape) (l₀ : List ℕ) (n : ℕ) (l : List ℕ) (many : ℕ) : Type 0 where
  pub given_first : (k : ℕ) → k < n → l # k ≡ l₀ # k
  pub only_reached : (k : ℕ) → k < many → (j : ℕ) × (j < n) × Reach (graph_of t) (l₀ # j) (l # k)
  pub all_reached : (j q : ℕ) → j < n → Reach (graph_of t) (l₀ # j) q → (k : ℕ) × (k < many) × (l # k ≡ q)
  pub none_twice : (j k : ℕ) → j < many → k < many → l # j ≡ l # k → j ≡ k
  -- d are the places in the order in which the walk from the given ones finishes them
  pub in_finishing_order : (d : List ℕ) × Walked (stored t) [] (take n l₀) d × (take many l ≡ take n l₀ ++ others (take n l₀) d)
