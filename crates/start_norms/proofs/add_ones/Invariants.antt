-- The first j cells are filled, and the others are as they were. Assumes nothing.
use Rattle.doubles.specs.Num.{◌⊕◌, f1}
use Rattle.doubles.specs.Lists.{◌!◌}
use Rattle.doubles.proofs.Loops.{Filled}
use Rattle.start_norms.proofs.add_ones.Given as goal

abbrev pub invariant-loop-j : goal.invariant-loop-j
invariant-loop-j l = Filled (λ i. l.initial.norms ! i ⊕ f1) l.initial.norms l.j l.norms
