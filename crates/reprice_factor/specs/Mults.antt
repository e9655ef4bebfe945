-- The multipliers out of a factor as it is made, not yet stored, and what they ask of it. proofs/Laws.antt shows that
-- they are those of the state that has it stored. Assumes nothing.
use Rattle.std.specs.Prelude.{List, [], ℕ, Float}
use Rattle.doubles.specs.Lists.{◌#◌}
use Rattle.lu_factor_rules.specs.Factor.{Matrix}
use Rattle.lu_factor_rules.specs.Transpose.{transpose}
use Rattle.lu_transpose.specs.Read.{Read}
use Rattle.lu_apply.specs.Ask.{Solid}
use Rattle.reprice_rules.specs.Reprice.{cost_of, cells_of, by_rows}
use Rattle.reprice_numbers.specs.Lent.{costed, dense_both}

-- the cost of each basic variable
abbrev pub costs_of : ℕ → ℕ → List Float → List ℕ → List Float
costs_of m n costs basics = cells_of m (λ i. cost_of (costed n costs []) (basics # i))

-- L and U are transposed for the solves
abbrev pub multipliers_of : ℕ → List ℕ → Matrix → Matrix → List Float → List Float → List Float
multipliers_of m number lower upper diag y =
    by_rows m number (dense_both m (transpose m upper) (transpose m lower) diag y)

-- they can be transposed, and the transposes solved with
pub record Solves (m : ℕ) (number : List ℕ) (lower upper : Matrix) (diag : List Float) : Type 0 where
  pub lower_read : Read m lower
  pub upper_read : Read m upper
  pub solid : Solid m number (transpose m upper) (transpose m lower) diag
