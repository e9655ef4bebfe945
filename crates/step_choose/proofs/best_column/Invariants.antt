-- After c turns the best is the definition's after c turns. Assumes nothing.
use mathlib.Core.Path.{◌≡◌}
use mathlib.Core.List.{[]}
use Rattle.doubles.specs.Num as Num
use Rattle.doubles.specs.Loop.{run}
use Rattle.rules.specs.Choose.{best_of, better_turn}
use Rattle.step_choose.specs.Lent.{non_basic_of}
use Rattle.step_choose.specs.Parts.{column}
use Rattle.step_choose.proofs.best_column.Given as goal

abbrev pub invariant-loop-c : goal.invariant-loop-c
invariant-loop-c l = column l.best ≡ run (better_turn (non_basic_of [] [] l.prices l.norms l.flags)) l.c (best_of l.n Num.-inf)
