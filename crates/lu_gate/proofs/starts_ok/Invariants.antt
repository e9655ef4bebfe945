-- No start before j is above the next. Assumes nothing.
use Rattle.std.proofs.Common.{◌≡◌, true}
use Rattle.doubles.specs.Loop.{all}
use Rattle.lu_gate.specs.Gate.{rises_at}
use Rattle.lu_gate.proofs.starts_ok.Given as goal

abbrev pub invariant-loop-j : goal.invariant-loop-j
invariant-loop-j l = all l.j (rises_at l.starts) ≡ true
