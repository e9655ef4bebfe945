-- The places before the index are inside and new, and the marks are theirs. Assumes nothing.
use Rattle.std.proofs.Common.{◌≡◌, true, length}
use Rattle.doubles.specs.Limits.{max_rows}
use Rattle.doubles.specs.Loop.{all}
use Rattle.lu_solve.specs.Solve.{given}
use Rattle.lu_gate.specs.Gate.{new_at}
use Rattle.lu_gate.proofs.list_ok.Given as goal

abbrev pub invariant-loop-i : goal.invariant-loop-i
invariant-loop-i l =
    record { inside : all l.i-index (new_at l.size l.list) ≡ true; marked : l.marks ≡ given l.list l.i-index; long : length l.marks ≡ max_rows }
