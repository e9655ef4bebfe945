-- `file_journal_bytes::is_clean` meets its contract. Assumes nothing.
use mathlib.Core.Path.{ap, ◌∙◌}
use mathlib.Core.Bool.{Bool, ◌&&◌, ◌||◌}
use lib.Dec.{leb, eqb}
use Rattle.sheet_terms.proofs.Machine.{result}
use Rattle.sheet_rules.specs.Verdict.{is_zero}
use Rattle.sheet_rules.specs.Edit.{uses_row, uses_column}
use Rattle.file_journal_rules.specs.File.{clean}
use borrow.Author.Rules.{rules}
use Rattle.file_journal_bytes.proofs.is_clean.Statement.{statement}
use Rattle.file_journal_bytes.proofs.is_clean.Tie as tie

is-zero-requires : tie.Need-is_zero-requires
is-zero-requires c κs = search rules

returns : tie.Need-returns
unfolding clean
returns c = ap (λ (v : Bool). (uses_row c.args.n.kind || eqb c.args.n.row 0) && (uses_column c.args.n.kind || eqb c.args.n.column 0) && (leb c.args.n.kind 7 || v)) (c.is_zero.ensures ∙ ap is_zero (result c.args.n.new c.struct_told-1.given.1.1.1.1.0.1))

pub is_clean_spec : {M : Type 1} → statement M
is_clean_spec = tie.close (tie.spec is-zero-requires returns)
