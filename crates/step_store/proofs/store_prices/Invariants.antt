-- After k turns the list is the definition's after k turns. Assumes nothing.
use mathlib.Core.Path.{◌≡◌}
use mathlib.Core.List.{[]}
use Rattle.doubles.specs.Loop.{run}
use Rattle.doubles.specs.Lists.{◌!◌}
use Rattle.sparse.specs.Scattered.{sv}
use Rattle.rules.specs.Pivot.{store_turn}
use Rattle.step_numbers.specs.New.{price_by}
use Rattle.step_store.proofs.store_prices.Given as goal

abbrev pub invariant-loop-j : goal.invariant-loop-j
invariant-loop-j l =
    l.prices ≡ run (store_turn (sv l.values [] l.list l.count) (λ j. price_by l.col l.pivot_obj j (l.initial.prices ! j) (l.values ! j))) l.j-index l.initial.prices
