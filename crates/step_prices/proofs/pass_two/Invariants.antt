-- After k turns the column is the definition's after k turns. Assumes nothing.
use mathlib.Core.Path.{◌≡◌}
use mathlib.Core.List.{[]}
use Rattle.doubles.specs.Num as Num
use Rattle.doubles.specs.Loop.{run}
use Rattle.sparse.specs.Scattered.{sv}
use Rattle.rules.specs.Ratio.{leaving_of}
use Rattle.rules.specs.DualRatio.{test_by, dual_pass_two_turn}
use Rattle.step_prices.specs.Lent.{priced_of}
use Rattle.step_prices.proofs.pass_two.Given as goal

abbrev pub invariant-loop-k : goal.invariant-loop-k
invariant-loop-k l =
    leaving_of l.at l.best ≡ run (dual_pass_two_turn (priced_of l.prices l.flags) (test_by l.still l.up) (sv l.values [] l.list l.count) l.max_step) l.k (leaving_of l.count Num.-inf)
