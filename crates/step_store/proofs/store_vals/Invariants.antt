-- After k turns the list is the definition's after k turns. Assumes nothing.
use mathlib.Core.Path.{◌≡◌}
use mathlib.Core.List.{[]}
use Rattle.doubles.specs.Loop.{run}
use Rattle.doubles.specs.Lists.{◌!◌}
use Rattle.sparse.specs.Scattered.{sv}
use Rattle.rules.specs.Pivot.{store_turn}
use Rattle.step_numbers.specs.New.{val_by}
use Rattle.step_store.proofs.store_vals.Given as goal

abbrev pub invariant-loop-r : goal.invariant-loop-r
invariant-loop-r l =
    l.basic_var_vals ≡ run (store_turn (sv l.values [] l.list l.count) (λ j. val_by l.row l.value l.diff j (l.initial.basic_var_vals ! j) (l.values ! j))) l.r-index l.initial.basic_var_vals
