-- What is left to look at gives the whole's answer. Assumes nothing.
use Rattle.doubles.proofs.Loops.{Seek}
use Rattle.rules.specs.Refusals.{false_row, first_false}
use Rattle.plan.specs.Lent.{empties_of}
use Rattle.plan.proofs.first_false.Given as goal

abbrev pub invariant-loop-i : goal.invariant-loop-i
invariant-loop-i l = Seek (false_row (empties_of l.rows l.starts l.ops l.rhs)) l.rows (first_false (empties_of l.rows l.starts l.ops l.rhs)) l.i
