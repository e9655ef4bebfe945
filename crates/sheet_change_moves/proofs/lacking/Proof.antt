-- `sheet_change_moves::lacking` meets its contract. Assumes nothing.
use mathlib.Core.Path.{ap, ◌∙◌}
use borrow.Author.Rules.{rules}
use Rattle.sheet_rules.specs.Sum.{bit}
use Rattle.sheet_terms.proofs.Machine.{of_word, result}
use Rattle.sheet_change_moves.proofs.lacking.Statement.{statement}
use Rattle.sheet_change_moves.proofs.lacking.Tie as tie

lacks-requires : tie.Need-lacks-requires
lacks-requires c κs = search rules

bit-requires : tie.Need-bit-requires
bit-requires c κs = search rules

returns : tie.Need-returns
returns c = result c.bit.result c.bit.type_inv ∙ c.bit.ensures ∙ ap bit (c.lacks.ensures ∙ rw (of_word c.ranges.d))

pub lacking_spec : {M : Type 1} → statement M
lacking_spec = tie.close (tie.spec lacks-requires bit-requires returns)
