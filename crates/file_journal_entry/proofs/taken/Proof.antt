-- `file_journal_entry::taken` meets its contract. Assumes nothing.
use Rattle.sheet_terms.proofs.Machine.{of_word}
use Rattle.file_journal_rules.specs.Journal.{taken}
use Rattle.file_journal_entry.proofs.taken.Statement.{statement}
use Rattle.file_journal_entry.proofs.taken.Tie as tie

returns : tie.Need-returns-then-uses
unfolding taken
returns c = rw c.if-uses.true (of_word c.ranges.z)

returns-2 : tie.Need-returns
unfolding taken
returns-2 c = rw c.if-uses.false

pub taken_spec : {M : Type 1} → statement M
taken_spec = tie.close (tie.spec returns returns-2)
