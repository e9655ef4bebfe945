-- The matrix by columns, rows rising: the entries of a column are counted, the columns laid end to end, and the rows' entries placed in turn. Assumes nothing.
use Rattle.std.specs.Prelude.{◌≡◌, List, [], ◌∷◌, ℕ, ◌+◌, ◌<◌, ◌≤◌, length, set, Float}
use Rattle.doubles.specs.Limits.{max_columns, max_entries}
use Rattle.doubles.specs.Loop.{run}
use Rattle.doubles.specs.Lists.{◌!◌, ◌#◌, part}
use Rattle.rules.specs.Plan.{Problem, Entry, entry, column, row_cols, row_coeffs, n_of, m_of}
use Rattle.plan.specs.Lent.{RowIn}

-- ---- how many entries each column has
abbrev pub count_turn : List ℕ → ℕ → List ℕ → List ℕ
count_turn cols k l = set l (cols # k) (l # (cols # k) + 1)

unfoldable pub counted_in : List ℕ → List ℕ → List ℕ
counted_in cols l = run (count_turn cols) (length cols) l

abbrev pub count_row : Problem → ℕ → List ℕ → List ℕ
count_row P r l = counted_in (row_cols P.plan (P.kept # r)) l

unfoldable pub counted : Problem → List ℕ → List ℕ
counted P l = run (count_row P) (m_of P) l

-- ---- where each column starts: the sum of the counts before it
unfoldable pub sum : List ℕ → ℕ → ℕ
sum l j = run (λ i t. t + l # i) j 0

-- ---- the rows' entries placed: each at its column's next cell
pub record Cells : Type 0 where
  pub next : List ℕ
  pub rows : List ℕ
  pub coeffs : List Float

abbrev pub cells : List ℕ → List ℕ → List Float → Cells
cells next rows coeffs = record { next = next; rows = rows; coeffs = coeffs }

abbrev pub place_turn : ℕ → List ℕ → List Float → ℕ → Cells → Cells
place_turn r cols xs k s =
    let c = cols # k in
    let at = s.next # c in
    cells (set s.next c (at + 1)) (set s.rows at r) (set s.coeffs at (xs ! k))

unfoldable pub placed_in : ℕ → List ℕ → List Float → Cells → Cells
placed_in r cols xs s = run (place_turn r cols xs) (length cols) s

abbrev pub place_row : Problem → ℕ → Cells → Cells
place_row P r s = placed_in r (row_cols P.plan (P.kept # r)) (row_coeffs P.plan (P.kept # r)) s

unfoldable pub placed : Problem → Cells → Cells
placed P s = run (place_row P) (m_of P) s

-- ---- what the functions ask

-- in a row of the column numbers cols each count stays small
pub record Counting (cols l : List ℕ) : Type 0 where
  pub col : (k : ℕ) → k < length cols → cols # k < max_columns
  pub few : (k : ℕ) → k < length cols → run (count_turn cols) k l # (cols # k) ≤ max_entries

-- and each entry has a cell
pub record Placing (r : ℕ) (cols : List ℕ) (xs : List Float) (s : Cells) : Type 0 where
  pub both_long : length cols ≤ length xs
  pub col : (k : ℕ) → k < length cols → cols # k < max_columns
  pub room : (k : ℕ) → k < length cols → (run (place_turn r cols xs) k s).next # (cols # k) < max_entries

-- kept row r is a part of the entries, after the rows before it, and its column numbers are columns
pub record RowOf (P : Problem) (r : ℕ) : Type 0 where
  pub cols_in : RowIn P.plan.starts (length P.plan.cols) (P.kept # r)
  pub most : P.plan.starts # (P.kept # r + 1) ≤ max_entries
  pub after : (q : ℕ) → q < r → P.plan.starts # (P.kept # q + 1) ≤ P.plan.starts # (P.kept # r)
  pub col : (k : ℕ) → k < length (row_cols P.plan (P.kept # r)) → row_cols P.plan (P.kept # r) # k < n_of P

-- and the values stand beside the column numbers
pub record Valued (P : Problem) : Type 0 where
  pub coeffs_in : (r : ℕ) → r < m_of P → RowIn P.plan.starts (length P.plan.coeffs) (P.kept # r)

pub record Matrix (P : Problem) : Type 0 where
  pub columns_most : n_of P ≤ max_columns
  pub row : (r : ℕ) → r < m_of P → RowOf P r

-- ---- what it then holds

-- rows and values, as entries
unfoldable pub entries_of : List ℕ → List Float → List Entry
entries_of [] xs = []
entries_of (r ∷ rs) [] = []
entries_of (r ∷ rs) (x ∷ xs) = entry r x ∷ entries_of rs xs

-- the cells of column j, from S # j up to S # (j + 1), are the entries of the definition's column
pub record ColumnAt (P : Problem) (S R : List ℕ) (X : List Float) (j : ℕ) : Type 0 where
  pub rises : S # j ≤ S # (j + 1)
  pub ends : S # (j + 1) ≤ max_entries
  pub row : (k : ℕ) → S # j ≤ k → k < S # (j + 1) → R # k < m_of P
  pub same : entries_of (part (S # j) (S # (j + 1)) R) (part (S # j) (S # (j + 1)) X) ≡ column P j

pub record ByColumns (P : Problem) (S R : List ℕ) (X : List Float) : Type 0 where
  pub rows_long : length R ≡ max_entries
  pub coeffs_long : length X ≡ max_entries
  pub column : (j : ℕ) → j < n_of P → ColumnAt P S R X j

-- nothing counted yet
pub record Zeros (l : List ℕ) : Type 0 where
  pub long : length l ≡ max_columns
  pub zero_at : (i : ℕ) → l # i ≡ 0

-- in every row each entry has a cell
pub record PlacingAll (P : Problem) (s : Cells) : Type 0 where
  pub cols_in : (r : ℕ) → r < m_of P → RowIn P.plan.starts (length P.plan.cols) (P.kept # r)
  pub coeffs_in : (r : ℕ) → r < m_of P → RowIn P.plan.starts (length P.plan.coeffs) (P.kept # r)
  pub placing : (r : ℕ) → r < m_of P → Placing r (row_cols P.plan (P.kept # r)) (row_coeffs P.plan (P.kept # r)) (run (place_row P) r s)
