-- The r slacks before passed. Assumes nothing.
use mathlib.Core.Path.{◌≡◌}
use mathlib.Core.Bool.{true}
use Rattle.doubles.specs.Loop.{all}
use Rattle.doubles.specs.Lists.{◌!◌, ◌#◌}
use Rattle.rules.specs.Plan.{slack_min, slack_max}
use Rattle.rules.specs.Start.{in_bounds}
use Rattle.start.proofs.passes_7.Given as goal

abbrev pub invariant-loop-r : goal.invariant-loop-r
invariant-loop-r l = all l.r (λ q. in_bounds (slack_min (l.ops # (l.kept # q))) (l.slacks ! q) (slack_max (l.ops # (l.kept # q)))) ≡ true
