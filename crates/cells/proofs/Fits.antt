-- A problem that fits has what a look at its variables' bounds asks. Assumes nothing.
use Prim.Native.Nat.{ℕ, ◌<◌}
use native.Mathlib.Omega.{arith}
use lib.ListN.{length}
use Rattle.doubles.specs.Lists.{◌#◌}
use Rattle.rules.specs.Plan.{Problem, m_of}
use Rattle.rules.specs.Invariant.{ProblemFits}
use Rattle.cells.specs.Bounds.{Sides}

module _ {P : Problem} (f : ProblemFits P) where
  inside : (r : ℕ) → r < m_of P → P.kept # r < length P.plan.ops
  inside r l = omega (arith, (f.kept r l).inside, f.plan.ops_long)

  pub sides : Sides P
  sides = record { lower = record { bounds_long = f.plan.lowers_long; row_inside = inside }; upper = record { bounds_long = f.plan.uppers_long; row_inside = inside } }
