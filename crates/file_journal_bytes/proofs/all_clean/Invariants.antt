-- The answer for the entries that are left is the whole answer. Assumes nothing.
use Rattle.std.proofs.Common.{◌≡◌, ◌+◌, ◌*◌, ◌-◌, drop}
use Rattle.file_journal_rules.specs.File.{entries_from, all_clean}
use Rattle.file_journal_bytes.proofs.all_clean.Given as goal

abbrev pub invariant-loop-k : goal.invariant-loop-k
invariant-loop-k l = all_clean (entries_from (l.count - l.k) (drop (4 + 22 * l.k) l.b)) ≡ all_clean (entries_from l.count (drop 4 l.b))
