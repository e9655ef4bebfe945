-- `file_journal_entry::feed_refusal` meets its contract. Assumes nothing.
use Rattle.sheet_rules.specs.Sheet.{plan_of, kept_of, sheet_of}
use Rattle.sheet_terms.proofs.Machine.{result}
use Rattle.file_journal_entry.proofs.Laws.{index_of, feed_is}
use borrow.Author.Rules.{rules}
use Rattle.file_journal_entry.proofs.feed_refusal.Statement.{statement}
use Rattle.file_journal_entry.proofs.feed_refusal.Tie as tie

forth-requires : tie.Need-forth-e-requires
forth-requires c κs = search rules

where-refusal-requires : tie.Need-where_refusal-requires
where-refusal-requires c κs = index_of (sheet_of (plan_of c.args.rows c.args.columns c.args.coefs.now c.args.costs.now c.args.lowers.now c.args.uppers.now c.args.lower_marks.now c.args.upper_marks.now c.args.rhs.now c.args.ops.now c.args.amounts.now c.args.mults.now) (kept_of c.args.r.now c.args.d.now c.args.c.now c.args.b.now c.args.counts.now)) c.forth-e.result

returns : tie.Need-returns
returns c = feed_is (sheet_of (plan_of c.args.rows c.args.columns c.args.coefs.now c.args.costs.now c.args.lowers.now c.args.uppers.now c.args.lower_marks.now c.args.upper_marks.now c.args.rhs.now c.args.ops.now c.args.amounts.now c.args.mults.now) (kept_of c.args.r.now c.args.d.now c.args.c.now c.args.b.now c.args.counts.now)) c.args.n c.forth-e.result _ _ c.forth-e.ensures (result c.args.n.old c.struct_told-1.given.1.1.1.0.1) c.where_refusal.ensures

pub feed_refusal_spec : {M : Type 1} → statement M
feed_refusal_spec = tie.close (tie.spec forth-requires where-refusal-requires returns)
