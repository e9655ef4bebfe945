-- The columns passed are moved. Assumes nothing.
use lib.IntN.{◌+ℤ◌}
use Rattle.doubles.proofs.Loops.{Filled}
use Rattle.sheet_rules.specs.Sum.{◌‼◌}
use Rattle.sheet_rules.specs.Sheet.{plan_of}
use Rattle.sheet_change_after.specs.Change.{price_change}
use Rattle.sheet_store_shift.proofs.move_prices.Given as goal

abbrev pub invariant-loop-j : goal.invariant-loop-j
invariant-loop-j l = Filled (λ k. l.fn.d ‼ k +ℤ price_change (plan_of l.rows l.columns l.coefs l.costs l.lowers l.uppers l.lower_marks l.upper_marks l.rhs l.ops l.amounts l.mults) l.e k) l.fn.d l.j l.d
