-- `file_journal_decide::keep_refusal` meets its contract. Assumes nothing.
use mathlib.Core.Path.{refl, sym, ◌∙◌}
use native.Mathlib.Omega.{arith}
use Rattle.sheet_rules.specs.Sheet.{Sheet, plan_of, kept_of, sheet_of}
use Rattle.sheet_rules.specs.Edit.{edit_refusal}
use Rattle.file_journal_decide.proofs.Laws.{else_first, else_then, has_room, is_full}
use borrow.Author.Rules.{rules}
use Rattle.file_journal_decide.proofs.keep_refusal.Statement.{statement}
use Rattle.file_journal_decide.proofs.keep_refusal.Tie as tie

abbrev sheet : tie.Start → Sheet
sheet s = sheet_of (plan_of s.args.rows s.args.columns s.args.coefs.now s.args.costs.now s.args.lowers.now s.args.uppers.now s.args.lower_marks.now s.args.upper_marks.now s.args.rhs.now s.args.ops.now s.args.amounts.now s.args.mults.now) (kept_of s.args.r.now s.args.d.now s.args.c.now s.args.b.now s.args.counts.now)

returns : tie.Need-returns-then-t-ne0
returns c = else_first c.args.t.refusal _ _ refl c.if-t-ne0.true

edit-refusal-requires : tie.Need-edit_refusal-refusal-requires
edit-refusal-requires c κs = search rules

returns-2 : tie.Need-returns-then-refusal-ne0
returns-2 c = else_then c.args.t.refusal _ _ c.if-t-ne0.false (else_first (edit_refusal (sheet (c.before.before.before.before.before.before.before)) c.args.e) _ _ c.edit_refusal-refusal.ensures c.if-refusal-ne0.true)

returns-3 : tie.Need-returns-then-t-room
returns-3 c = else_then c.args.t.refusal _ _ c.if-t-ne0.false (else_then (edit_refusal (sheet (c.before.before.before.before.before.before.before.before.before)) c.args.e) _ _ (sym c.edit_refusal-refusal.ensures ∙ c.if-refusal-ne0.false) (has_room c.args.t.entries c.args.room (omega arith)))

returns-4 : tie.Need-returns
returns-4 c = else_then c.args.t.refusal _ _ c.if-t-ne0.false (else_then (edit_refusal (sheet (c.before.before.before.before.before.before.before.before.before)) c.args.e) _ _ (sym c.edit_refusal-refusal.ensures ∙ c.if-refusal-ne0.false) (is_full c.args.t.entries c.args.room (omega arith)))

pub keep_refusal_spec : {M : Type 1} → statement M
keep_refusal_spec =
    tie.close (tie.spec returns edit-refusal-requires returns-2 returns-3 returns-4)
