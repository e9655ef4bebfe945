-- `file_journal_decide::undo_refusal` meets its contract. Assumes nothing.
use Rattle.sheet_rules.specs.Sheet.{Sheet, plan_of, kept_of, sheet_of}
use Rattle.file_journal_decide.proofs.Laws.{last_in, undo_first, undo_none, undo_last}
use borrow.Author.Rules.{rules}
use Rattle.file_journal_decide.proofs.undo_refusal.Statement.{statement}
use Rattle.file_journal_decide.proofs.undo_refusal.Tie as tie

abbrev sheet : tie.Start → Sheet
sheet s = sheet_of (plan_of s.args.rows s.args.columns s.args.coefs.now s.args.costs.now s.args.lowers.now s.args.uppers.now s.args.lower_marks.now s.args.upper_marks.now s.args.rhs.now s.args.ops.now s.args.amounts.now s.args.mults.now) (kept_of s.args.r.now s.args.d.now s.args.c.now s.args.b.now s.args.counts.now)

returns : tie.Need-returns-then-t-ne0
returns c = undo_first (sheet (c.before.before.before.before.before.before)) c.args.journal.now c.args.t c.requires c.if-t-ne0.true

returns-2 : tie.Need-returns-then-t-eq0
returns-2 c = undo_none (sheet (c.before.before.before.before.before.before.before.before)) c.args.journal.now c.args.t c.requires c.if-t-ne0.false c.if-t-eq0.true

sub-entry-at : tie.Need-overflow_sub-t
sub-entry-at c = search rules

entry-at-requires : tie.Need-entry_at-n-requires
entry-at-requires c κs = last_in c.args.journal.now c.args.t c.requires c.if-t-ne0.false c.if-t-eq0.false

take-refusal-requires : tie.Need-take_refusal-requires
take-refusal-requires c κs = search rules

returns-3 : tie.Need-returns
returns-3 c = undo_last (sheet (c.before.before.before.before.before.before.before.before.before.before.before)) c.args.journal.now c.args.t c.entry_at-n.result _ c.requires c.if-t-ne0.false c.if-t-eq0.false c.entry_at-n.ensures c.take_refusal.ensures

pub undo_refusal_spec : {M : Type 1} → statement M
undo_refusal_spec =
    tie.close
    (tie.spec returns returns-2 sub-entry-at entry-at-requires take-refusal-requires returns-3)
