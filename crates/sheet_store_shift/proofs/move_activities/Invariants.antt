-- The rows passed are moved. Assumes nothing.
use lib.IntN.{◌+ℤ◌}
use Rattle.doubles.proofs.Loops.{Filled}
use Rattle.sheet_rules.specs.Sum.{◌‼◌}
use Rattle.sheet_rules.specs.Sheet.{plan_of}
use Rattle.sheet_change_after.specs.Change.{row_change}
use Rattle.sheet_store_shift.proofs.move_activities.Given as goal

abbrev pub invariant-loop-i : goal.invariant-loop-i
invariant-loop-i l = Filled (λ k. l.fn.r ‼ k +ℤ row_change (plan_of l.rows l.columns l.coefs l.costs l.lowers l.uppers l.lower_marks l.upper_marks l.rhs l.ops l.amounts l.mults) l.e k) l.fn.r l.i l.r
