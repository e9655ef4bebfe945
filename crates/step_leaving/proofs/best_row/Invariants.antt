-- After r turns the best is the definition's after r turns. Assumes nothing.
use mathlib.Core.Path.{◌≡◌}
use Rattle.doubles.specs.Num as Num
use Rattle.doubles.specs.Loop.{run}
use Rattle.rules.specs.Parts.{bounded}
use Rattle.rules.specs.DualRow.{best_row_of, better_row_turn}
use Rattle.step_leaving.specs.Lent.{rows_of}
use Rattle.step_leaving.specs.Parts.{row_of}
use Rattle.step_leaving.proofs.best_row.Given as goal

abbrev pub invariant-loop-r : goal.invariant-loop-r
invariant-loop-r l =
    row_of l.best ≡ run (better_row_turn (bounded l.n l.lowers l.uppers l.ops l.kept) (rows_of l.basic_vars l.basic_var_vals l.dual_norms)) l.r (best_row_of l.m Num.-inf)
