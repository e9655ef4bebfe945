-- The value of the bytes passed, from the last one on. Assumes nothing.
use Rattle.std.proofs.Common.{◌≡◌, ◌+◌, ◌-◌, take, drop}
use Rattle.file_rules.specs.Bytes.{value}
use Rattle.file_bytes.proofs.get_little.Given as goal

abbrev pub invariant-loop-i : goal.invariant-loop-i
invariant-loop-i l = l.w ≡ value (take (l.n - l.i) (drop (l.at + l.i) l.b))
