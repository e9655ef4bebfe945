-- After k turns the list is the definition's after k turns. Assumes nothing.
use mathlib.Core.Path.{◌≡◌}
use mathlib.Core.List.{[]}
use Rattle.doubles.specs.Loop.{run}
use Rattle.doubles.specs.Lists.{◌!◌}
use Rattle.sparse.specs.Scattered.{sv}
use Rattle.rules.specs.Pivot.{store_turn}
use Rattle.step_numbers.specs.New.{norm_by}
use Rattle.step_store.proofs.store_norms.Given as goal

abbrev pub invariant-loop-j : goal.invariant-loop-j
invariant-loop-j l =
    l.norms ≡ run (store_turn (sv l.values [] l.list l.count) (λ j. norm_by l.col l.sq l.pivot l.pivot_sq j (l.initial.norms ! j) (l.values ! j) (l.helper ! j))) l.j-index l.initial.norms
