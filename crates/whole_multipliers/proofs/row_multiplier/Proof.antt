-- `whole_multipliers::row_multiplier`: the price, rounded for the row's comparison. Assumes nothing.
use mathlib.Core.Path.{ap, ◌∙◌}
use Rattle.whole_round.specs.Whole.{multiplier_of}
use Rattle.whole_multipliers.specs.Rows.{multiplier_at}
use borrow.Author.Rules.{rules}
use Rattle.whole_multipliers.proofs.row_multiplier.Statement.{statement}
use Rattle.whole_multipliers.proofs.row_multiplier.Tie as tie

slack-price-requires : tie.Need-slack_price-price-requires
slack-price-requires c κs = search rules

shared-slice-read-multiplier : tie.Need-bounds-ops-i
shared-slice-read-multiplier c = search rules

multiplier-requires : tie.Need-multiplier-requires
multiplier-requires c κs = search rules

returns : tie.Need-returns
unfolding multiplier_at
returns c = let s : tie.After-slack_price-price = search in
    c.multiplier.ensures ∙ ap (multiplier_of _) s.slack_price-price.ensures

pub row_multiplier_spec : {M : Type 1} → statement M
row_multiplier_spec =
    tie.close
    (tie.spec slack-price-requires shared-slice-read-multiplier multiplier-requires returns)
