-- The answer for the blocks that are left is the whole answer. Assumes nothing.
use Rattle.std.proofs.Common.{◌≡◌, ◌*◌, ◌-◌, ◌≤◌, drop}
use Rattle.file_journal_rules.specs.Lent.{test, tested}
use Rattle.file_journal_walk.proofs.test.Given as goal

abbrev pub invariant-loop-place : goal.invariant-loop-place
invariant-loop-place l = (l.n ≤ 255 * l.place) × (test (l.blocks - l.place) l.place l.n (drop (512 * l.place) l.journal) ≡ tested l.journal)
