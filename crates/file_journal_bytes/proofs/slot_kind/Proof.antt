-- `file_journal_bytes::slot_kind` meets its contract. Assumes nothing.
use Rattle.file_journal_rules.specs.File.{slot_kind}
use Rattle.file_journal_bytes.proofs.slot_kind.Statement.{statement}
use Rattle.file_journal_bytes.proofs.slot_kind.Tie as tie

returns : tie.Need-returns-then-end
unfolding slot_kind
returns c = rw c.if-end.true

returns-2 : tie.Need-returns
unfolding slot_kind
returns-2 c = rw c.if-end.false

pub slot_kind_spec : {M : Type 1} → statement M
slot_kind_spec = tie.close (tie.spec returns returns-2)
