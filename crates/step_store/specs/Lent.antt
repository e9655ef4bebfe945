-- What the stores ask of the arrays that they are lent. Assumes nothing.
use Rattle.std.specs.Prelude.{List, ℕ, ◌+◌, ◌<◌, ◌≤◌, length, Float}
use Rattle.doubles.specs.Limits.{max_rows, max_columns, vars}
use Rattle.doubles.specs.Lists.{◌#◌}
use Rattle.rules.specs.Plan.{Problem, n_of, m_of}
use Rattle.state.specs.Packed.{packed, Sized}

-- the bounds of variable v can be looked up
pub record Bounded (P : Problem) (v : ℕ) : Type 0 where
  pub variable : v < n_of P + m_of P
  pub lowers_long : n_of P ≤ length P.plan.lowers
  pub uppers_long : n_of P ≤ length P.plan.uppers
  pub row_inside : (r : ℕ) → r < m_of P → P.kept # r < length P.plan.ops

-- what stands at place `col` can be moved to a bound
pub record Flips (P : Problem) (N : List ℕ) (D : List Float) (col : ℕ) : Type 0 where
  pub sized : Sized N D
  pub col_inside : col < max_columns
  pub bounds : Bounded P ((packed N D).nb_vars # col)

-- what stands in row `row` and at place `col` can change hands
pub record Swaps (P : Problem) (N : List ℕ) (D : List Float) (col row : ℕ) : Type 0 where
  pub sized : Sized N D
  pub few : n_of P ≤ max_columns
  pub row_inside : row < max_rows
  pub col_inside : col < max_columns
  pub enters : (packed N D).nb_vars # col < vars
  pub leaves : (packed N D).basic_vars # row < vars
  pub leaves_bounds : Bounded P ((packed N D).basic_vars # row)
