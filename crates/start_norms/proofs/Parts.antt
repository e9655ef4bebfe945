-- The norms of a problem are those of its rows alone. Assumes nothing.
use mathlib.Core.Path.{◌≡◌, refl}
use Prim.Native.Nat.{ℕ}
use Rattle.rules.specs.Plan.{Problem, n_of, column}
use Rattle.rules.specs.Parts.{rowed}
use Rattle.rules.specs.Start.{start_norm}

pub norm_part : (P : Problem) (j : ℕ) → start_norm P j ≡ start_norm (rowed (n_of P) P.plan.starts P.plan.cols P.plan.coeffs P.kept) j
unfolding start_norm column
norm_part P j = refl
