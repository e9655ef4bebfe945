-- `file_journal_entry::take_back` meets its contract. Assumes nothing.
use Rattle.sheet_terms.proofs.Machine.{result}
use Rattle.file_journal_entry.proofs.Laws.{back_is}
use borrow.Author.Rules.{rules}
use Rattle.file_journal_entry.proofs.take_back.Statement.{statement}
use Rattle.file_journal_entry.proofs.take_back.Tie as tie

back-kind-requires : tie.Need-back_kind-kind-requires
back-kind-requires c κs = search rules

returns : tie.Need-returns
returns c = back_is c.args.n _ _ c.back_kind-kind.ensures (result c.args.n.old c.struct_told-1.given.1.1.1.0.1)

pub take_back_spec : {M : Type 1} → statement M
take_back_spec = tie.close (tie.spec back-kind-requires returns)
