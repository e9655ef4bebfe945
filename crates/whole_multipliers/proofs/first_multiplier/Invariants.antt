-- No row before is the first. Assumes nothing.
use mathlib.Core.Bool.{not}
use mathlib.Core.List.{[]}
use Rattle.doubles.proofs.Loops.{Seek}
use Rattle.state.specs.Memory.{memory_in}
use Rattle.whole_round.specs.Whole.{is_whole}
use Rattle.whole_multipliers.specs.Rows.{multiplier_at, first_multiplier, rows_of}
use Rattle.whole_multipliers.proofs.first_multiplier.Given as goal

abbrev pub invariant-loop-i : goal.invariant-loop-i
invariant-loop-i l =
    let p = rows_of l.columns l.rows l.starts l.ops in
    let m = memory_in [] l.numbers l.doubles [] [] in
    Seek (λ k. not (is_whole (multiplier_at p m k))) l.rows (first_multiplier p m) l.i
