-- A basis of m columns: the matrix by columns, and the variable of each column. Assumes nothing.
use Rattle.std.specs.Prelude.{List, ℕ, ◌<◌, Float}
use Rattle.doubles.specs.Lists.{◌#◌}
use Rattle.sparse.specs.Scattered.{Sv}
use Rattle.lu_factor_rules.specs.Ready.{Vector}
use Rattle.basis_columns.specs.Loading.{column_on, ColumnLent}

-- "Column i is that of the basic variable of row i: its entries by kept rows rising, for a slack one entry, 1.0"
abbrev pub columns_of : List ℕ → List ℕ → List Float → ℕ → List ℕ → ℕ → Sv
columns_of S R X n basis i = column_on S R X n (basis # i)

-- each column can be read, and its rows are the basis' own
pub record Basis (m : ℕ) (S R : List ℕ) (X : List Float) (n : ℕ) (basis : List ℕ) : Type 0 where
  pub lent : (i : ℕ) → i < m → ColumnLent S R X n (basis # i)
  pub vector : (i : ℕ) → i < m → Vector m (columns_of S R X n basis i)
