-- The comparisons looked at are known. Assumes nothing.
use Rattle.std.proofs.Common.{◌≡◌}
use mathlib.Core.Bool.{true}
use lib.Dec.{leb}
use Rattle.doubles.specs.Lists.{◌#◌}
use Rattle.doubles.specs.Loop.{all}
use Rattle.sheet_tests.proofs.ops_fine.Given as goal

abbrev pub invariant-loop-op : goal.invariant-loop-op
invariant-loop-op l = all l.op-index (λ k. leb (l.ops # k) 2) ≡ true
