-- What a transpose is: it has the same entries, those of a row together, and of one row the later ones first. Assumes
-- nothing.
use Rattle.std.specs.Prelude.{◌≡◌, Bool, true, false, List, ℕ, suc, ◌+◌, ◌-◌, ◌<◌, ◌≤◌, eqb, ltb}
use Rattle.doubles.specs.Loop.{run}
use Rattle.doubles.specs.Lists.{◌!◌, ◌#◌}
use Rattle.lu_factor_rules.specs.Factor.{Matrix}

abbrev pub one : Bool → ℕ
one true = 1
one false = 0

-- how many of the first n entries stand in row r, and in the rows before r
unfoldable pub in_row : List ℕ → ℕ → ℕ → ℕ
in_row l r n = run (λ k c. c + one (eqb (l # k) r)) n 0

unfoldable pub before_row : List ℕ → ℕ → ℕ → ℕ
before_row l r n = run (λ k c. c + one (ltb (l # k) r)) n 0

-- where entry k of n goes: behind the rows before its own, and behind the later entries of its own
abbrev pub place_of : List ℕ → ℕ → ℕ → ℕ
place_of l n k = before_row l (suc (l # k)) n - in_row l (l # k) (k + 1)

-- entry k, of column c, as u has it: in the column of its row, with c as its row and its own number
pub record Stands (t u : Matrix) (n c k : ℕ) : Type 0 where
  pub begins : u.starts # (t.rows # k) ≤ place_of t.rows n k
  pub ends : place_of t.rows n k < u.starts # (t.rows # k + 1)
  pub row : u.rows # (place_of t.rows n k) ≡ c
  pub val : u.vals ! place_of t.rows n k ≡ t.vals ! k

pub record Transposed (m : ℕ) (t u : Matrix) : Type 0 where
  -- column r begins behind the entries of the rows before r
  pub starts_at : (r : ℕ) → r ≤ m → u.starts # r ≡ before_row t.rows r (t.starts # m)
  -- as many entries
  pub as_many : u.starts # m ≡ t.starts # m
  -- every entry stands in it
  pub holds : (c k : ℕ) → c < m → t.starts # c ≤ k → k < t.starts # (c + 1) → Stands t u (t.starts # m) c k
  -- and nothing else does
  pub only : (r p : ℕ) → r < m → u.starts # r ≤ p → p < u.starts # (r + 1)
      → (k : ℕ) × (k < t.starts # m) × (t.rows # k ≡ r) × (place_of t.rows (t.starts # m) k ≡ p)
  -- of one row the later entry stands first
  pub later_first : (j k : ℕ) → j < k → k < t.starts # m → t.rows # j ≡ t.rows # k
      → place_of t.rows (t.starts # m) k < place_of t.rows (t.starts # m) j
  -- "A transposed column lists its entries by FALLING column number of the original"
  pub falling : (r p q : ℕ) → r < m → u.starts # r ≤ p → p < q → q < u.starts # (r + 1) → u.rows # q ≤ u.rows # p
