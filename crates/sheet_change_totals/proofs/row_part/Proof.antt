-- `sheet_change_totals::row_part` meets its contract. Assumes nothing.
use borrow.Author.Rules.{rules}
use mathlib.Core.Path.{◌≡◌, ap, ◌∙◌}
use mathlib.Core.Bool.{not}
use lib.IntN.{pos}
use Rattle.doubles.specs.Limits.{max_multiplier, max_right_side}
use Rattle.sheet_rules.specs.Sum.{bit}
use Rattle.sheet_rules.specs.Sheet.{holds, wrong}
use Rattle.sheet_rules.proofs.Sizes.{bit_size}
use Rattle.sheet_terms.proofs.Machine.{E, num, mul, word, exact, fit}
use Rattle.sheet_change_totals.specs.Parts.{totals_of, row_part}
use Rattle.sheet_change_totals.proofs.Sizes.{back}
use Rattle.sheet_change_totals.proofs.row_part.Statement.{statement}
use Rattle.sheet_change_totals.proofs.row_part.Tie as tie

abbrev product : tie.Start → E
product s = mul (num s.args.y.mult max_multiplier s.requires.mult_in) (num s.args.y.right max_right_side s.requires.right_in)

mul-t2 : tie.Need-overflow_mul-result
mul-t2 c = let s : tie.Start = search in fit (product s) tt

broken-requires : tie.Need-broken-requires
broken-requires c κs = search rules

wrong-requires : tie.Need-wrong-requires
wrong-requires c κs = search rules

bit-requires : tie.Need-bit-requires
bit-requires c κs = search rules

returns : tie.Need-returns
unfolding row_part
returns c =
    let s : tie.Start = search in
    let y = s.args.y in
    let t : tie.After-broken = search in
    let right = exact (num y.right max_right_side s.requires.right_in) tt in
    let mult = exact (num y.mult max_multiplier s.requires.mult_in) tt in
    let activity : word y.activity ≡ y.activity = search rules in
    let broken = back _ (bit (not (holds y.op y.activity y.right))) 1 (t.broken.ensures ∙ rw (activity, right)) (bit_size _) tt in
    let sign = back _ (bit (wrong y.op y.mult)) 1 (c.bit.ensures ∙ ap bit (c.wrong.ensures ∙ rw mult)) (bit_size _) tt in
    λ h. totals_of (pos 0) (exact (product s) tt h) (broken h) (pos 0) (sign h) (pos 0)

pub row_part_spec : {M : Type 1} → statement M
row_part_spec = tie.close (tie.spec mul-t2 broken-requires wrong-requires bit-requires returns)
