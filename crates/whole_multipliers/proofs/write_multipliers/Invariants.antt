-- The rows passed have theirs. Assumes nothing.
use mathlib.Core.List.{[]}
use Rattle.doubles.proofs.Loops.{Filled}
use Rattle.state.specs.Memory.{memory_in}
use Rattle.whole_round.specs.Whole.{number_of}
use Rattle.whole_multipliers.specs.Rows.{multiplier_at, rows_of}
use Rattle.whole_multipliers.proofs.write_multipliers.Given as goal

abbrev pub invariant-loop-i : goal.invariant-loop-i
invariant-loop-i l = Filled (λ k. number_of (multiplier_at (rows_of l.columns l.rows l.starts l.ops) (memory_in [] l.numbers l.doubles [] []) k)) l.fn.mults l.i l.mults
