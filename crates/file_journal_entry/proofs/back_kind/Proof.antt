-- `file_journal_entry::back_kind` meets its contract. Assumes nothing.
use Rattle.file_journal_entry.proofs.Laws.{lower_dropped, lower_put, upper_dropped, upper_put, other_kept}
use Rattle.file_journal_entry.proofs.back_kind.Statement.{statement}
use Rattle.file_journal_entry.proofs.back_kind.Tie as tie

returns : tie.Need-returns-then-before-eq0
returns c = lower_dropped c.args.kind c.args.before c.if-kind.true c.if-before-eq0.true

returns-2 : tie.Need-returns-then-kind
returns-2 c = lower_put c.args.kind c.args.before c.if-kind.true c.if-before-eq0.false

returns-3 : tie.Need-returns-then-before-eq0-2
returns-3 c = upper_dropped c.args.kind c.args.before c.if-kind-2.true c.if-before-eq0-2.true

returns-4 : tie.Need-returns-then-kind-2
returns-4 c = upper_put c.args.kind c.args.before c.if-kind-2.true c.if-before-eq0-2.false

returns-5 : tie.Need-returns
returns-5 c = other_kept c.args.kind c.args.before c.if-kind.false c.if-kind-2.false

pub back_kind_spec : {M : Type 1} → statement M
back_kind_spec = tie.close (tie.spec returns returns-2 returns-3 returns-4 returns-5)
