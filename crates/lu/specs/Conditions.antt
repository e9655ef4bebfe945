-- When each number is given, in words of its own, apart from the tests that pick (specs/Result.antt). 01: "Refused, lowest first, nothing changed: 1 a bad
-- size or start, an off-diagonal row too large or not below (lower) or above (upper), a diagonal of 0; 2 a number not finite; 3 a listed place too large or
-- repeated". proofs/Refusals.antt says that the tests pick by these conditions. Assumes nothing.
use Rattle.std.specs.Prelude.{◌≡◌, Bool, true, false, List, ◌⊎◌, ℕ, ◌+◌, ◌<◌, ◌≤◌, length, Float}
use Rattle.std.specs.Float.Ieee.{eq}
use Rattle.doubles.specs.Num.{f0, finite}
use Rattle.doubles.specs.Limits.{max_rows, max_tri_entries}
use Rattle.doubles.specs.Lists.{◌!◌, ◌#◌}
use Rattle.lu_walk.specs.Walk.{many, kid}
use Rattle.lu_solve.specs.Solve.{Tri}
use Rattle.lu.specs.Result.{Result}

-- "not below (lower) or above (upper)": the row r of an entry of column c
abbrev pub NotBeyond : Bool → ℕ → ℕ → Type 0
NotBeyond true c r = r ≤ c
NotBeyond false c r = c ≤ r

-- 1, of a triangle with e entries and m cells of values
pub data BadTriangle (t : Tri) (e m : ℕ) : Type 0 where
  -- 01's limits with 02's numbers, 96 places and 4,560 entries, and no array is too short
  too_many_places : max_rows < t.shape.size → BadTriangle t e m
  too_many_entries : max_tri_entries < e → BadTriangle t e m
  starts_short : length t.shape.starts ≤ t.shape.size → BadTriangle t e m
  rows_short : length t.shape.rows < e → BadTriangle t e m
  numbers_short : length t.vals < e → BadTriangle t e m
  diagonal_short : t.has_diag ≡ true → length t.diag < t.shape.size → BadTriangle t e m
  values_short : m < t.shape.size → BadTriangle t e m
  -- the starts don't begin at 0, don't end at the entry count, or fall
  begins_elsewhere : (t.shape.starts # 0 ≡ 0 → ⊥) → BadTriangle t e m
  ends_elsewhere : (t.shape.starts # t.shape.size ≡ e → ⊥) → BadTriangle t e m
  falls : (j : ℕ) → j < t.shape.size → t.shape.starts # (j + 1) < t.shape.starts # j → BadTriangle t e m
  -- "an off-diagonal row too large or not below (lower) or above (upper)": the i-th of column c
  row_too_large : (c i : ℕ) → c < t.shape.size → i < many t.shape c → t.shape.size ≤ kid t.shape c i → BadTriangle t e m
  row_on_the_wrong_side : (c i : ℕ) → c < t.shape.size → i < many t.shape c → NotBeyond t.shape.lower c (kid t.shape c i) → BadTriangle t e m
  -- "a diagonal of 0"
  diagonal_of_0 : t.has_diag ≡ true → (j : ℕ) → j < t.shape.size → eq (t.diag ! j) f0 ≡ true → BadTriangle t e m

-- 1, of a sparse solve: the list's array too
pub data BadSparse (t : Tri) (e : ℕ) (l : List ℕ) (n m : ℕ) : Type 0 where
  of_triangle : BadTriangle t e m → BadSparse t e l n m
  list_short : length l < t.shape.size → BadSparse t e l n m
  listed_beyond : length l < n → BadSparse t e l n m

-- 2, where the values of the places in Counts count: of a sparse solve the listed ones alone, whatever the others hold, and of a dense one all (01 says
-- "Unlisted places count as 0.0")
pub data NotFinite (t : Tri) (e : ℕ) (v : List Float) (Counts : ℕ → Type 0) : Type 0 where
  entry : (i : ℕ) → i < e → finite (t.vals ! i) ≡ false → NotFinite t e v Counts
  diagonal : t.has_diag ≡ true → (j : ℕ) → j < t.shape.size → finite (t.diag ! j) ≡ false → NotFinite t e v Counts
  value : (i : ℕ) → i < t.shape.size → Counts i → finite (v ! i) ≡ false → NotFinite t e v Counts

-- 1 and 2, of a solve with two triangles: of either
abbrev pub BadFactors : Tri → ℕ → Tri → ℕ → ℕ → Type 0
BadFactors t e u f m = BadTriangle t e m ⊎ BadTriangle u f m

abbrev pub FactorsNotFinite : Tri → ℕ → Tri → ℕ → List Float → (ℕ → Type 0) → Type 0
FactorsNotFinite t e u f v Counts = NotFinite t e v Counts ⊎ NotFinite u f v Counts

-- the places of a list, and of a dense solve
abbrev pub Named : List ℕ → ℕ → ℕ → Type 0
Named l n i = (k : ℕ) × (k < n) × (l # k ≡ i)

abbrev pub Inside : ℕ → ℕ → Type 0
Inside n i = i < n

-- 3
pub data BadList (size : ℕ) (l : List ℕ) (n : ℕ) : Type 0 where
  too_large : (k : ℕ) → k < n → size ≤ l # k → BadList size l n
  repeated : (j k : ℕ) → j < k → k < n → l # j ≡ l # k → BadList size l n

-- each number exactly where its condition holds and no lower one's does
pub record Exactly (r : Result) (P1 P2 P3 : Type 0) : Type 0 where
  pub one : (r.number ≡ 1 → P1) × (P1 → r.number ≡ 1)
  pub two : (r.number ≡ 2 → (P1 → ⊥) × P2) × ((P1 → ⊥) → P2 → r.number ≡ 2)
  pub three : (r.number ≡ 3 → (P1 → ⊥) × (P2 → ⊥) × P3) × ((P1 → ⊥) → (P2 → ⊥) → P3 → r.number ≡ 3)
  pub solved : (r.number ≡ 0 → (P1 → ⊥) × (P2 → ⊥) × (P3 → ⊥)) × ((P1 → ⊥) → (P2 → ⊥) → (P3 → ⊥) → r.number ≡ 0)
