-- The columns passed have their scaled costs. Assumes nothing.
use lib.IntN.{◌*ℤ◌, pos}
use Rattle.doubles.specs.Limits.{unit}
use Rattle.doubles.proofs.Loops.{Filled}
use Rattle.sheet_rules.specs.Sum.{◌‼◌}
use Rattle.sheet_open.proofs.start_prices.Given as goal

abbrev pub invariant-loop-j : goal.invariant-loop-j
invariant-loop-j l = Filled (λ k. pos unit *ℤ l.costs ‼ k) l.initial.d l.j l.d
