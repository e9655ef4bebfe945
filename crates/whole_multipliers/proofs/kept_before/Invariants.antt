-- After j turns, those before row j. Assumes nothing.
use Rattle.std.proofs.Common.{◌≡◌, ◌≤◌, []}
use Rattle.whole_multipliers.specs.Rows.{before, rows_of}
use Rattle.whole_multipliers.proofs.kept_before.Given as goal

abbrev pub invariant-loop-j : goal.invariant-loop-j
invariant-loop-j l = (l.k ≤ l.j) × (l.k ≡ before (rows_of 0 0 l.starts []) l.j)
