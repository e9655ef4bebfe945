-- The first k of the items are numbers; with the cells past them they are what the definition's k turns leave. Assumes nothing.
use Rattle.std.proofs.Common.{◌≡◌, ◌++◌, drop}
use Rattle.doubles.specs.Loop.{run}
use Rattle.lu_factor_rules.specs.Factor.{renumber_turn}
use Rattle.basis_factor.proofs.renumber.Given as goal

abbrev pub invariant-loop-row : goal.invariant-loop-row
invariant-loop-row l = l.row-items ++ drop l.n l.fn.lrows ≡ run (renumber_turn l.number) l.row-index l.fn.lrows
