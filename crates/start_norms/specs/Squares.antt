-- The squares of the entries as the code adds them, row by row. Assumes nothing.
use Rattle.std.specs.Prelude.{List, ℕ, length, set, Float}
use Rattle.doubles.specs.Num.{◌⊕◌, ◌⊗◌}
use Rattle.doubles.specs.Loop.{run}
use Rattle.doubles.specs.Lists.{◌!◌, ◌#◌}
use Rattle.rules.specs.Plan.{Problem, m_of, row_cols, row_coeffs}

-- a row's squares, each added at its column
abbrev pub square_turn : List ℕ → List Float → ℕ → List Float → List Float
square_turn cols xs k ns = set ns (cols # k) (ns ! (cols # k) ⊕ xs ! k ⊗ xs ! k)

unfoldable pub add_squares : List ℕ → List Float → List Float → List Float
add_squares cols xs ns = run (square_turn cols xs) (length cols) ns

abbrev pub square_row : Problem → ℕ → List Float → List Float
square_row P r ns = add_squares (row_cols P.plan (P.kept # r)) (row_coeffs P.plan (P.kept # r)) ns

-- those of all kept rows, in order: proofs/Norms.antt shows that they are the columns' sums
unfoldable pub squares : Problem → List Float → List Float
squares P ns = run (square_row P) (m_of P) ns
