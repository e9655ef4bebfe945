-- The columns passed have the row taken off. Assumes nothing.
use lib.IntN.{◌-ℤ◌, ◌*ℤ◌}
use Rattle.doubles.proofs.Loops.{Filled}
use Rattle.sheet_rules.specs.Sum.{◌‼◌}
use Rattle.sheet_open.proofs.take_row.Given as goal

abbrev pub invariant-loop-j : goal.invariant-loop-j
invariant-loop-j l = Filled (λ k. l.initial.d ‼ k -ℤ l.row ‼ k *ℤ l.mult) l.initial.d l.j l.d
