-- Writing a factor into two lent lists, array by array, and what the functions ask. Assumes nothing.
use Rattle.std.specs.Prelude.{List, ◌++◌, ℕ, ◌+◌, ◌≤◌, length, take, drop, Float}
use Rattle.doubles.specs.Limits.{max_rows, max_tri_entries}
use Rattle.lu_factor_rules.specs.Factor.{Matrix}

-- l with xs written over its cells from a on
abbrev pub written : {A : Type 0} → ℕ → List A → List A → List A
written a xs l = take a l ++ xs ++ drop (a + length xs) l

-- the numbers and the coefficients
pub record Lent : Type 0 where
  pub numbers : List ℕ
  pub coeffs : List Float

abbrev pub lent : List ℕ → List Float → Lent
lent N D = record { numbers = N; coeffs = D }

-- a matrix: its starts from s on, its rows from r on and its coefficients from v on
abbrev pub matrix_written : ℕ → ℕ → ℕ → Matrix → Lent → Lent
matrix_written s r v t l = lent (written r t.rows (written s t.starts l.numbers))
    (written v t.vals l.coeffs)

-- it has room there
pub record Room (s r v : ℕ) (l : Lent) : Type 0 where
  pub starts : s + (max_rows + 1) ≤ length l.numbers
  pub rows : r + max_tri_entries ≤ length l.numbers
  pub vals : v + max_tri_entries ≤ length l.coeffs
