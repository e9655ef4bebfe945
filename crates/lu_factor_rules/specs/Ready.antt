-- What the functions ask. Assumes nothing.
use Rattle.std.specs.Prelude.{◌≡◌, true, false, List, ℕ, ◌+◌, ◌<◌, ◌≤◌, eqb, length, Float}
use Rattle.std.specs.Float.Ieee.{le}
use Rattle.doubles.specs.Limits.{max_rows, places, max_tri_entries}
use Rattle.doubles.specs.Loop.{run}
use Rattle.doubles.specs.Lists.{◌#◌}
use Rattle.lu_walk.specs.Walk.{mapped, MapColumns}
use Rattle.sparse.specs.Scattered.{Sv, Good, Below}
use Rattle.doubles.specs.Num.{eps}
use Rattle.lu_factor_rules.specs.Factor.{is_pivot, Parts, gather_turn, chosen, solved}

-- the columns of L that are made, found through the pivot numbers of the rows
pub record Lower (m : ℕ) (number : List ℕ) (i : ℕ) (starts rows : List ℕ) (vals : List Float) : Type 0 where
  pub columns : MapColumns (mapped true m number i starts rows)
  pub vals_long : (j : ℕ) → j < i → starts # (j + 1) ≤ length vals
  pub starts_few : i ≤ max_rows

-- the first n of a list are rows
pub record Rows (m n : ℕ) (l : List ℕ) : Type 0 where
  pub few : n ≤ places
  pub small : m ≤ max_rows
  pub rows : (k : ℕ) → k < n → l # k < m

-- one more entry fits, for a row that is a pivot row or none of the first i
pub record RoomFor (number : List ℕ) (i row r : ℕ) (t : Parts) : Type 0 where
  pub upper_room : is_pivot number i r ≡ true → t.upper.count < max_tri_entries
  pub lower_room : is_pivot number i r ≡ false → eqb r row ≡ false → t.lower.count < max_tri_entries

-- so do all entries of a column
pub record Roomy (number : List ℕ) (i row : ℕ) (v : List Float) (l : List ℕ) (n : ℕ) (t : Parts) : Type 0 where
  pub room : (k : ℕ) → k < n → RoomFor number i row (l # k) (run (gather_turn number i row v l) k t)

-- what 4 to 6 ask: the chosen row is one, and where there is a pivot the entries fit
pub record Judgeable (number : List ℕ) (i : ℕ) (v : List Float) (l : List ℕ) (n : ℕ) (t : Parts) : Type 0 where
  pub rows : Rows max_rows n l
  pub row : (chosen number i v l n).row < max_rows
  pub roomy : le eps (chosen number i v l n).most ≡ true → Roomy number i (chosen number i v l n).row v l n t

-- a vector over the rows
pub record Vector (m : ℕ) (s : Sv) : Type 0 where
  pub good : Good places s
  pub below : Below m s

-- what a column asks
pub record Solvable (m i : ℕ) (number starts : List ℕ) (t : Parts) (s : Sv) : Type 0 where
  pub lower : Lower m number i starts t.lower.rows t.lower.vals
  pub vector : Vector m s
  pub judgeable : let u = solved m number i starts t.lower.rows t.lower.vals s in Judgeable number i u.vals
      u.pat.list u.pat.count t

-- the first n cells hold rows
pub record Renumberable (n : ℕ) (l : List ℕ) : Type 0 where
  pub few : n ≤ max_tri_entries
  pub held : (k : ℕ) → k < n → l # k < max_rows
