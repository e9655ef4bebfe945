-- `sheet_change_moves::beyond` meets its contract. Assumes nothing.
use mathlib.Core.Path.{ap, ◌∙◌}
use borrow.Author.Rules.{rules}
use Rattle.sheet_rules.specs.Sum.{bit}
use Rattle.sheet_terms.proofs.Machine.{of_word, result}
use Rattle.sheet_change_moves.proofs.beyond.Statement.{statement}
use Rattle.sheet_change_moves.proofs.beyond.Tie as tie

outside-requires : tie.Need-outside-requires
outside-requires c κs = search rules

bit-requires : tie.Need-bit-requires
bit-requires c κs = search rules

returns : tie.Need-returns
returns c = let s = c.before.before in result c.bit.result c.bit.type_inv ∙ c.bit.ensures ∙ ap bit (c.outside.ensures ∙ rw (of_word s.ranges.z, of_word s.ranges.low, of_word s.ranges.high))

pub beyond_spec : {M : Type 1} → statement M
beyond_spec = tie.close (tie.spec outside-requires bit-requires returns)
