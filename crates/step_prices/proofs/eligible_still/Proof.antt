-- `step_prices::eligible_still`: the definition's own test. Assumes nothing.
use borrow.Author.Rules.{rules}
use Rattle.rules.specs.DualRatio.{eligible_still}
use Rattle.step_prices.proofs.eligible_still.Statement.{statement}
use Rattle.step_prices.proofs.eligible_still.Tie as tie

abs-requires : tie.Need-abs-requires
abs-requires c κs = search rules

returns : tie.Need-returns
unfolding eligible_still
returns c =
    let a : tie.After-abs = search in
    rw a.abs.ensures

pub eligible_still_spec : {M : Type 1} → statement M
eligible_still_spec = tie.close (tie.spec abs-requires returns)
