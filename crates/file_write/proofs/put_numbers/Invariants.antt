-- What is still to be put, put there, gives the whole. Assumes nothing.
use Rattle.std.proofs.Common.{◌≡◌, ◌+◌, ◌*◌, ◌-◌, take, drop}
use Rattle.std.proofs.lemmas.List.Edits.{sets}
use Rattle.file_rules.specs.Bytes.{encode}
use Rattle.file_write.proofs.put_numbers.Given as goal

abbrev pub invariant-loop-k : goal.invariant-loop-k
invariant-loop-k l = sets l.out (3 + 8 * l.k) (encode (take (l.count - l.k) (drop (l.from + l.k) l.numbers))) ≡ sets l.fn.out 3 (encode (take l.count (drop l.from l.numbers)))
