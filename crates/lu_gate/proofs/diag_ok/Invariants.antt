-- No number before the index is 0. Assumes nothing.
use Rattle.std.proofs.Common.{◌≡◌, true}
use Rattle.doubles.specs.Loop.{all}
use Rattle.lu_gate.specs.Gate.{nonzero_at}
use Rattle.lu_gate.proofs.diag_ok.Given as goal

abbrev pub invariant-loop-d : goal.invariant-loop-d
invariant-loop-d l = all l.d-index (nonzero_at l.diag) ≡ true
