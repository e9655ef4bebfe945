-- The columns looked at have no crossed bounds. Assumes nothing.
use Rattle.std.proofs.Common.{◌≡◌}
use mathlib.Core.Bool.{true, not}
use Rattle.doubles.specs.Lists.{◌#◌}
use Rattle.doubles.specs.Loop.{all}
use Rattle.sheet_rules.specs.Sum.{◌‼◌}
use Rattle.sheet_rules.specs.Opening.{crosses}
use Rattle.sheet_tests.proofs.uncrossed.Given as goal

abbrev pub invariant-loop-j : goal.invariant-loop-j
invariant-loop-j l =
    all l.j (λ k. not (crosses (l.lowers ‼ k) (l.uppers ‼ k) (l.lower_marks # k) (l.upper_marks # k))) ≡ true
