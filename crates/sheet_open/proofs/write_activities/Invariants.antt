-- The rows passed have their sums. Assumes nothing.
use Rattle.std.proofs.Common.{◌+◌, ◌*◌}
use Rattle.doubles.proofs.Loops.{Filled}
use Rattle.sheet_rules.specs.Sum.{◌‼◌, dot}
use Rattle.sheet_open.proofs.write_activities.Given as goal

abbrev pub invariant-loop-i : goal.invariant-loop-i
invariant-loop-i l = Filled (λ k. dot l.columns (λ j. l.coefs ‼ (k * l.columns + j)) (λ j. l.amounts ‼ j)) l.initial.r l.i l.r
