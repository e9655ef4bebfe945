-- The first j cells are filled. Assumes nothing.
use Rattle.doubles.proofs.Loops.{Filled}
use Rattle.rules.specs.Start.{start_val_at}
use Rattle.start_values.specs.Lent.{costed}
use Rattle.start_values.proofs.start_vals.Given as goal

abbrev pub invariant-loop-j : goal.invariant-loop-j
invariant-loop-j l = Filled (start_val_at (costed l.n l.costs l.lowers l.uppers)) l.initial.xs l.j l.xs
