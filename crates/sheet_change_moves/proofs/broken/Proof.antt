-- `sheet_change_moves::broken` meets its contract. Assumes nothing.
use mathlib.Core.Path.{◌≡◌, ap, ◌∙◌}
use mathlib.Core.Bool.{Bool, not}
use borrow.Author.Rules.{rules}
use Rattle.sheet_rules.specs.Sum.{bit}
use Rattle.sheet_rules.specs.Sheet.{holds}
use Rattle.sheet_terms.proofs.Machine.{of_word, result}
use Rattle.sheet_change_moves.proofs.broken.Statement.{statement}
use Rattle.sheet_change_moves.proofs.broken.Tie as tie

holds-requires : tie.Need-holds-requires
holds-requires c κs = search rules

bit-requires : tie.Need-bit-requires
bit-requires c κs = search rules

returns : tie.Need-returns
returns c = let s = c.before.before in let h : c.holds.result ≡ holds s.args.op s.args.activity s.args.right = c.holds.ensures ∙ rw (of_word s.ranges.activity, of_word s.ranges.right) in result c.bit.result c.bit.type_inv ∙ c.bit.ensures ∙ ap (λ (t : Bool). bit (not t)) h

pub broken_spec : {M : Type 1} → statement M
broken_spec = tie.close (tie.spec holds-requires bit-requires returns)
