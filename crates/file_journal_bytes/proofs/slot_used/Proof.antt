-- `file_journal_bytes::slot_used` meets its contract. Assumes nothing.
use mathlib.Core.Path.{ap}
use Prim.Native.Nat.{ℕ, ◌+◌, ◌*◌}
use native.Mathlib.Omega.{arith}
use borrow.Author.Tests.{le-leb, lt-leb}
use Rattle.file_journal_rules.specs.File.{used_by}
use borrow.Author.Rules.{rules}
use Rattle.file_journal_bytes.proofs.slot_used.Statement.{statement}
use Rattle.file_journal_bytes.proofs.slot_used.Tie as tie

returns : tie.Need-returns-then-end
unfolding used_by
returns c = (rw c.if-end.true, omega arith)

size-of-requires : tie.Need-size_of-requires
size-of-requires c κs = search rules

mul-result : tie.Need-overflow_mul-result
mul-result c = search rules

add-result : tie.Need-overflow_add-result
add-result c = search rules

returns-2 : tie.Need-returns-then-count-le22
unfolding used_by
returns-2 c = let e = c.size_of.ensures in (rw (c.if-end.false, le-leb c.args.count 22 (omega arith)) (ap (λ (x : ℕ). 1 + 22 * x) e.0), omega (arith, e.0))

returns-3 : tie.Need-returns
unfolding used_by
returns-3 c = (rw (c.if-end.false, lt-leb c.args.count 22 (omega arith)), omega arith)

pub slot_used_spec : {M : Type 1} → statement M
slot_used_spec =
    tie.close (tie.spec returns size-of-requires mul-result add-result returns-2 returns-3)
