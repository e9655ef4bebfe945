-- `file_journal_entry::reads` meets its contract. Assumes nothing.
use mathlib.Core.Path.{ap, ◌∙◌}
use Rattle.sheet_rules.specs.Sheet.{plan_of, holds}
use Rattle.sheet_terms.proofs.Machine.{result, of_word}
use Rattle.file_journal_entry.proofs.Laws.{reads_is}
use borrow.Author.Rules.{rules}
use Rattle.file_journal_entry.proofs.reads.Statement.{statement}
use Rattle.file_journal_entry.proofs.reads.Tie as tie

old-cell-requires : tie.Need-old_cell-cell-requires
old-cell-requires c κs = search rules

holds-requires : tie.Need-holds-requires
holds-requires c κs = search rules

cast-result : tie.Need-overflow_cast-result
cast-result c = search rules

returns : tie.Need-returns
returns c = reads_is (plan_of c.args.rows c.args.columns c.args.coefs.now c.args.costs.now c.args.lowers.now c.args.uppers.now c.args.lower_marks.now c.args.upper_marks.now c.args.rhs.now c.args.ops.now c.args.amounts.now c.args.mults.now) c.args.e c.args.number c.args.mark c.old_cell-cell.result c.holds.result _ c.old_cell-cell.ensures (result c.old_cell-cell.result.number c.struct_told-1.given.0.1) (c.holds.ensures ∙ ap (holds 1 _) (of_word c.ranges.number))

pub reads_spec : {M : Type 1} → statement M
reads_spec = tie.close (tie.spec old-cell-requires holds-requires cast-result returns)
