-- `file_journal_entry::tidied` meets its contract. Assumes nothing.
use mathlib.Core.Path.{ap, ◌∙◌}
use lib.Dec.{leb}
use Rattle.sheet_terms.proofs.Machine.{result}
use Rattle.file_journal_rules.specs.Journal.{taken}
use Rattle.file_journal_entry.proofs.Laws.{tidy_is}
use borrow.Author.Rules.{rules}
use Rattle.file_journal_entry.proofs.tidied.Statement.{statement}
use Rattle.file_journal_entry.proofs.tidied.Tie as tie

used-requires : tie.Need-used-row-requires
used-requires c κs = search rules

used-requires-2 : tie.Need-used-column-requires
used-requires-2 c κs = search rules

taken-requires : tie.Need-taken-number-requires
taken-requires c κs = search rules

returns : tie.Need-returns
returns c = tidy_is c.args.e _ _ _ c.used-row.ensures c.used-column.ensures (result c.taken-number.result c.taken-number.type_inv ∙ c.taken-number.ensures ∙ ap (taken (leb c.args.e.kind 7)) (result c.args.e.number c.struct_told-1.given.1.1.1.0.1))

pub tidied_spec : {M : Type 1} → statement M
tidied_spec = tie.close (tie.spec used-requires used-requires-2 taken-requires returns)
