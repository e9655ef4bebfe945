-- What is lent to look up the bounds of variables is long enough. Assumes nothing.
use Rattle.std.specs.Prelude.{List, ℕ, ◌<◌, ◌≤◌, length, Float}
use Rattle.doubles.specs.Lists.{◌#◌}
use Rattle.rules.specs.Plan.{Problem, n_of}

-- one side: `bounds` is the plan's lowers or its uppers
pub record Bounds (n : ℕ) (bounds : List Float) (ops kept : List ℕ) : Type 0 where
  pub bounds_long : n ≤ length bounds
  pub row_inside : (r : ℕ) → r < length kept → kept # r < length ops

pub record Sides (P : Problem) : Type 0 where
  pub lower : Bounds (n_of P) P.plan.lowers P.plan.ops P.kept
  pub upper : Bounds (n_of P) P.plan.uppers P.plan.ops P.kept
