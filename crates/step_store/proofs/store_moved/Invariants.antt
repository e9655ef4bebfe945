-- After k turns the list is the definition's after k turns. Assumes nothing.
use mathlib.Core.Path.{◌≡◌}
use mathlib.Core.List.{[]}
use Rattle.doubles.specs.Num.{◌⊖◌, ◌⊗◌}
use Rattle.doubles.specs.Loop.{run}
use Rattle.doubles.specs.Lists.{◌!◌}
use Rattle.sparse.specs.Scattered.{sv}
use Rattle.rules.specs.Pivot.{store_turn}
use Rattle.step_store.proofs.store_moved.Given as goal

abbrev pub invariant-loop-r : goal.invariant-loop-r
invariant-loop-r l =
    l.basic_var_vals ≡ run (store_turn (sv l.values [] l.list l.count) (λ j. l.initial.basic_var_vals ! j ⊖ l.diff ⊗ l.values ! j)) l.r-index l.initial.basic_var_vals
