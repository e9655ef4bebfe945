-- `sheet_change_totals::column_part` meets its contract. Assumes nothing.
use borrow.Author.Rules.{rules}
use mathlib.Core.Path.{◌∙◌}
use lib.IntN.{pos}
use Prim.Native.Nat.{◌*◌}
use Rattle.doubles.specs.Limits.{max_cost, max_amount, max_bound}
use Rattle.sheet_rules.specs.Sum.{bit}
use Rattle.sheet_rules.specs.Sheet.{term, outside, lacks}
use Rattle.sheet_rules.proofs.Sizes.{bit_size, term_size}
use Rattle.sheet_terms.specs.Small.{far_d}
use Rattle.sheet_terms.proofs.Machine.{E, num, mul, exact, fit}
use Rattle.sheet_change_totals.specs.Parts.{totals_of, column_part}
use Rattle.sheet_change_totals.proofs.Sizes.{back}
use Rattle.sheet_change_totals.proofs.column_part.Statement.{statement}
use Rattle.sheet_change_totals.proofs.column_part.Tie as tie

abbrev product : tie.Start → E
product s = mul (num s.args.x.cost max_cost s.requires.cost_in) (num s.args.x.amount max_amount s.requires.amount_in)

mul-t2 : tie.Need-overflow_mul-result
mul-t2 c = let s : tie.Start = search in fit (product s) tt

term-requires : tie.Need-term-requires
term-requires c κs = search rules

beyond-requires : tie.Need-beyond-requires
beyond-requires c κs = search rules

lacking-requires : tie.Need-lacking-requires
lacking-requires c κs = search rules

returns : tie.Need-returns
unfolding column_part
returns c =
    let s : tie.Start = search in
    let x = s.args.x in
    let t : tie.After-term = search in
    let o : tie.After-beyond = search in
    let price = exact (num x.price far_d s.requires.price_in_holds) tt in
    let low = exact (num x.low max_bound s.requires.low_in) tt in
    let high = exact (num x.high max_bound s.requires.high_in) tt in
    let amount = exact (num x.amount max_amount s.requires.amount_in) tt in
    let floor = back _ (term x.price x.low x.high x.lowmark x.highmark) (far_d * max_bound) (t.term.ensures ∙ rw (price, low, high)) (term_size far_d max_bound x.price x.low x.high _ _ s.requires.price_in_holds s.requires.low_in s.requires.high_in) tt in
    let beyond = back _ (bit (outside x.amount x.low x.high x.lowmark x.highmark)) 1 (o.beyond.ensures ∙ rw (amount, low, high)) (bit_size _) tt in
    let absent = back _ (bit (lacks x.price x.lowmark x.highmark)) 1 (c.lacking.ensures ∙ rw price) (bit_size _) tt in
    λ h. totals_of (exact (product s) tt h) (floor h) (pos 0) (beyond h) (pos 0) (absent h)

pub column_part_spec : {M : Type 1} → statement M
column_part_spec =
    tie.close (tie.spec mul-t2 term-requires beyond-requires lacking-requires returns)
