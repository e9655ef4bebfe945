-- What is still to be put, put there, gives the whole. Assumes nothing.
use Rattle.std.proofs.Common.{◌≡◌, ◌-◌}
use Rattle.std.proofs.lemmas.List.Edits.{sets}
use Rattle.file_rules.specs.Bytes.{little}
use Rattle.file_bytes.proofs.put_little.Given as goal

abbrev pub invariant-loop-x : goal.invariant-loop-x
invariant-loop-x l = sets l.x-items l.x-index (little (l.n - l.x-index) l.left) ≡ sets l.initial.x-items 0 (little l.n l.w)
