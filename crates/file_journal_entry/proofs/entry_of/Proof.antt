-- `file_journal_entry::entry_of` meets its contract. Assumes nothing.
use mathlib.Core.Path.{refl}
use Rattle.sheet_rules.specs.Sheet.{plan_of}
use Rattle.sheet_terms.proofs.Machine.{result}
use Rattle.file_journal_entry.proofs.Laws.{index_tidy, entry_of_is}
use borrow.Author.Rules.{rules}
use Rattle.file_journal_entry.proofs.entry_of.Statement.{statement}
use Rattle.file_journal_entry.proofs.entry_of.Tie as tie

tidied-requires : tie.Need-tidied-t-requires
tidied-requires c κs = search rules

old-cell-requires : tie.Need-old_cell-cell-requires
old-cell-requires c κs = rw c.tidied-t.ensures (c.requires.0, index_tidy (plan_of c.args.rows c.args.columns c.args.coefs.now c.args.costs.now c.args.lowers.now c.args.uppers.now c.args.lower_marks.now c.args.upper_marks.now c.args.rhs.now c.args.ops.now c.args.amounts.now c.args.mults.now) c.args.e c.requires.1)

cast-t16 : tie.Need-overflow_cast-result
cast-t16 c = search rules

returns : tie.Need-returns
returns c = entry_of_is (plan_of c.args.rows c.args.columns c.args.coefs.now c.args.costs.now c.args.lowers.now c.args.uppers.now c.args.lower_marks.now c.args.upper_marks.now c.args.rhs.now c.args.ops.now c.args.amounts.now c.args.mults.now) c.args.e c.tidied-t.result c.old_cell-cell.result _ c.tidied-t.ensures c.old_cell-cell.ensures refl refl refl (result c.old_cell-cell.result.number c.struct_told-1.given.0.1) (result c.tidied-t.result.number c.struct_told-2-1.given.1.1.1.0.1) refl

pub entry_of_spec : {M : Type 1} → statement M
entry_of_spec = tie.close (tie.spec tidied-requires old-cell-requires cast-t16 returns)
