-- `file_journal_entry::take_refusal` meets its contract. Assumes nothing.
use mathlib.Core.Path.{sym, ap, subst, ◌∙◌}
use Rattle.sheet_rules.specs.Sheet.{plan_of, kept_of, sheet_of}
use Rattle.sheet_rules.specs.Edit.{edit_refusal}
use Rattle.sheet_rules.specs.Words.{Index}
use Rattle.sheet_terms.proofs.Machine.{result}
use Rattle.file_journal_entry.proofs.Laws.{index_back, take_is}
use borrow.Author.Rules.{rules}
use Rattle.file_journal_entry.proofs.take_refusal.Statement.{statement}
use Rattle.file_journal_entry.proofs.take_refusal.Tie as tie

take-back-requires : tie.Need-take_back-e-requires
take-back-requires c κs = search rules

forth-requires : tie.Need-forth-f-requires
forth-requires c κs = search rules

used-requires : tie.Need-used-mark-requires
used-requires c κs = search rules

where-refusal-requires : tie.Need-where_refusal-requires
where-refusal-requires c κs = λ w. subst (Index (plan_of c.args.rows c.args.columns c.args.coefs.now c.args.costs.now c.args.lowers.now c.args.uppers.now c.args.lower_marks.now c.args.upper_marks.now c.args.rhs.now c.args.ops.now c.args.amounts.now c.args.mults.now)) (sym c.forth-f.ensures) (index_back (sheet_of (plan_of c.args.rows c.args.columns c.args.coefs.now c.args.costs.now c.args.lowers.now c.args.uppers.now c.args.lower_marks.now c.args.upper_marks.now c.args.rhs.now c.args.ops.now c.args.amounts.now c.args.mults.now) (kept_of c.args.r.now c.args.d.now c.args.c.now c.args.b.now c.args.counts.now)) c.args.n (ap (edit_refusal (sheet_of (plan_of c.args.rows c.args.columns c.args.coefs.now c.args.costs.now c.args.lowers.now c.args.uppers.now c.args.lower_marks.now c.args.upper_marks.now c.args.rhs.now c.args.ops.now c.args.amounts.now c.args.mults.now) (kept_of c.args.r.now c.args.d.now c.args.c.now c.args.b.now c.args.counts.now))) (sym c.take_back-e.ensures) ∙ w))

returns : tie.Need-returns
returns c = take_is (sheet_of (plan_of c.args.rows c.args.columns c.args.coefs.now c.args.costs.now c.args.lowers.now c.args.uppers.now c.args.lower_marks.now c.args.upper_marks.now c.args.rhs.now c.args.ops.now c.args.amounts.now c.args.mults.now) (kept_of c.args.r.now c.args.d.now c.args.c.now c.args.b.now c.args.counts.now)) c.args.n c.take_back-e.result c.forth-f.result _ c.used-mark.result _ c.take_back-e.ensures c.forth-f.ensures (result c.args.n.new c.struct_told-1.given.1.1.1.1.0.1) c.used-mark.ensures c.where_refusal.ensures

pub take_refusal_spec : {M : Type 1} → statement M
take_refusal_spec =
    tie.close
    (tie.spec take-back-requires forth-requires used-requires where-refusal-requires returns)
