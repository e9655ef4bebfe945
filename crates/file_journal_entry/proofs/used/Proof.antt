-- `file_journal_entry::used` meets its contract. Assumes nothing.
use Rattle.file_journal_rules.specs.Journal.{used}
use Rattle.file_journal_entry.proofs.used.Statement.{statement}
use Rattle.file_journal_entry.proofs.used.Tie as tie

returns : tie.Need-returns-then-uses
unfolding used
returns c = rw c.if-uses.true

returns-2 : tie.Need-returns
unfolding used
returns-2 c = rw c.if-uses.false

pub used_spec : {M : Type 1} → statement M
used_spec = tie.close (tie.spec returns returns-2)
