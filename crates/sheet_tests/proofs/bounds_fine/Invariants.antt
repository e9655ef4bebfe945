-- The bounds looked at are fine. Assumes nothing.
use Rattle.std.proofs.Common.{◌≡◌}
use mathlib.Core.Bool.{true}
use Rattle.doubles.specs.Lists.{◌#◌}
use Rattle.doubles.specs.Loop.{all}
use Rattle.sheet_rules.specs.Sum.{◌‼◌}
use Rattle.sheet_rules.specs.Opening.{bound_fine}
use Rattle.sheet_tests.proofs.bounds_fine.Given as goal

abbrev pub invariant-loop-i : goal.invariant-loop-i
invariant-loop-i l = all l.i (λ k. bound_fine (l.marks # k) (l.xs ‼ k)) ≡ true
