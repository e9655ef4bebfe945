-- What is still to be put, put there, gives the whole. Assumes nothing.
use Rattle.std.proofs.Common.{◌≡◌, ◌+◌, ◌-◌, take, drop}
use Rattle.std.proofs.lemmas.List.Edits.{sets}
use Rattle.file_write.proofs.put_bytes.Given as goal

abbrev pub invariant-loop-k : goal.invariant-loop-k
invariant-loop-k l = sets l.out (3 + l.k) (take (l.count - l.k) (drop (l.from + l.k) l.bytes)) ≡ sets l.initial.out 3 (take l.count (drop l.from l.bytes))
