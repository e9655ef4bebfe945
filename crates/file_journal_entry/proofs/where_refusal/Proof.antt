-- `file_journal_entry::where_refusal` meets its contract. Assumes nothing.
use mathlib.Core.Path.{sym, ap, ◌∙◌}
use mathlib.Core.Bool.{true, false}
use lib.IntN.{ℤ}
use Rattle.sheet_rules.specs.Sheet.{plan_of, kept_of, sheet_of}
use Rattle.sheet_rules.specs.Edit.{edit_refusal}
use Rattle.sheet_terms.proofs.Machine.{of_word}
use Rattle.file_journal_rules.specs.Journal.{reads, unless_so}
use Rattle.file_journal_entry.proofs.Laws.{plan_sized_holds, else_first, else_then}
use borrow.Author.Rules.{rules}
use Rattle.file_journal_entry.proofs.where_refusal.Statement.{statement}
use Rattle.file_journal_entry.proofs.where_refusal.Tie as tie

edit-refusal-requires : tie.Need-edit_refusal-refusal-requires
edit-refusal-requires c κs = search rules

returns : tie.Need-returns-then-refusal-ne0
returns c = else_first (edit_refusal (sheet_of (plan_of c.args.rows c.args.columns c.args.coefs.now c.args.costs.now c.args.lowers.now c.args.uppers.now c.args.lower_marks.now c.args.upper_marks.now c.args.rhs.now c.args.ops.now c.args.amounts.now c.args.mults.now) (kept_of c.args.r.now c.args.d.now c.args.c.now c.args.b.now c.args.counts.now)) c.args.e) _ _ c.edit_refusal-refusal.ensures c.if-refusal-ne0.true

reads-requires : tie.Need-reads-requires
reads-requires c κs = (plan_sized_holds (sheet_of (plan_of c.args.rows c.args.columns c.args.coefs.now c.args.costs.now c.args.lowers.now c.args.uppers.now c.args.lower_marks.now c.args.upper_marks.now c.args.rhs.now c.args.ops.now c.args.amounts.now c.args.mults.now) (kept_of c.args.r.now c.args.d.now c.args.c.now c.args.b.now c.args.counts.now)) c.args.e (sym c.edit_refusal-refusal.ensures ∙ c.if-refusal-ne0.false), c.requires (sym c.edit_refusal-refusal.ensures ∙ c.if-refusal-ne0.false))

returns-2 : tie.Need-returns-then-reads
unfolding unless_so
returns-2 c = else_then (edit_refusal (sheet_of (plan_of c.args.rows c.args.columns c.args.coefs.now c.args.costs.now c.args.lowers.now c.args.uppers.now c.args.lower_marks.now c.args.upper_marks.now c.args.rhs.now c.args.ops.now c.args.amounts.now c.args.mults.now) (kept_of c.args.r.now c.args.d.now c.args.c.now c.args.b.now c.args.counts.now)) c.args.e) true _ 36 (sym c.edit_refusal-refusal.ensures ∙ c.if-refusal-ne0.false) (sym c.if-reads.true ∙ (c.reads.ensures ∙ ap (λ (z : ℤ). reads (plan_of c.args.rows c.args.columns c.args.coefs.now c.args.costs.now c.args.lowers.now c.args.uppers.now c.args.lower_marks.now c.args.upper_marks.now c.args.rhs.now c.args.ops.now c.args.amounts.now c.args.mults.now) c.args.f z c.args.mark) (of_word c.ranges.number)))

returns-3 : tie.Need-returns
unfolding unless_so
returns-3 c = else_then (edit_refusal (sheet_of (plan_of c.args.rows c.args.columns c.args.coefs.now c.args.costs.now c.args.lowers.now c.args.uppers.now c.args.lower_marks.now c.args.upper_marks.now c.args.rhs.now c.args.ops.now c.args.amounts.now c.args.mults.now) (kept_of c.args.r.now c.args.d.now c.args.c.now c.args.b.now c.args.counts.now)) c.args.e) false _ 36 (sym c.edit_refusal-refusal.ensures ∙ c.if-refusal-ne0.false) (sym c.if-reads.false ∙ (c.reads.ensures ∙ ap (λ (z : ℤ). reads (plan_of c.args.rows c.args.columns c.args.coefs.now c.args.costs.now c.args.lowers.now c.args.uppers.now c.args.lower_marks.now c.args.upper_marks.now c.args.rhs.now c.args.ops.now c.args.amounts.now c.args.mults.now) c.args.f z c.args.mark) (of_word c.ranges.number)))

pub where_refusal_spec : {M : Type 1} → statement M
where_refusal_spec =
    tie.close (tie.spec edit-refusal-requires returns reads-requires returns-2 returns-3)
