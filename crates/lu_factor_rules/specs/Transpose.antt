-- The transpose of a matrix by columns: the entries of each row counted, the counts summed up, and each entry put
-- before those of its row that were put already, so "A transposed column lists its entries by FALLING column number of
-- the original". From minilp 0.2.2, src/sparse.rs (SparseMat::transpose), Apache-2.0, changed: lent arrays. Assumes
-- nothing.
use Rattle.std.specs.Prelude.{List, ℕ, ◌+◌, ◌-◌, Float, set, replicate}
use Rattle.doubles.specs.Num.{f0}
use Rattle.doubles.specs.Limits.{max_rows, max_tri_entries}
use Rattle.doubles.specs.Loop.{run}
use Rattle.doubles.specs.Lists.{◌!◌, ◌#◌}
use Rattle.lu_factor_rules.specs.Factor.{Matrix, matrix}

-- how many of the first n entries each row has
abbrev pub count_turn : List ℕ → ℕ → List ℕ → List ℕ
count_turn rows k c = set c (rows # k) (c # (rows # k) + 1)

unfoldable pub counted : List ℕ → ℕ → List ℕ → List ℕ
counted rows n c = run (count_turn rows) n c

-- where each row's entries end: its count and those of the rows before it
abbrev pub sum_turn : ℕ → List ℕ → List ℕ
sum_turn r c = set c (r + 1) (c # (r + 1) + c # r)

unfoldable pub summed : ℕ → List ℕ → List ℕ
summed m c = run sum_turn m c

-- an entry of column c in row r, right before those of its row that stand in u
unfoldable pub placed_one : ℕ → ℕ → Float → Matrix → Matrix
placed_one c r x u = let p = u.starts # r - 1 in matrix (set u.starts r p) (set u.rows p c) (set u.vals p x)

-- the k-th entry of column c of t
abbrev pub place_turn : Matrix → ℕ → ℕ → Matrix → Matrix
place_turn t c k u = placed_one c (t.rows # (t.starts # c + k)) (t.vals ! (t.starts # c + k)) u

unfoldable pub placed_column : Matrix → ℕ → Matrix → Matrix
placed_column t c u = run (place_turn t c) (t.starts # (c + 1) - t.starts # c) u

-- the columns in turn
unfoldable pub placed : ℕ → Matrix → Matrix → Matrix
placed m t u = run (placed_column t) m u

-- what fresh arrays hold
abbrev pub empty : Matrix
empty = matrix (replicate (max_rows + 1) 0) (replicate max_tri_entries 0) (replicate max_tri_entries f0)

abbrev pub ends_of : ℕ → Matrix → List ℕ
ends_of m t = summed m (counted t.rows (t.starts # m) empty.starts)

unfoldable pub transpose : ℕ → Matrix → Matrix
transpose m t = placed m t (matrix (ends_of m t) empty.rows empty.vals)
