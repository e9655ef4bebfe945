-- `step_prices::exchange`: the numbers of the answer. Assumes nothing.
use borrow.Author.Rules.{rules}
use Rattle.step_prices.specs.Parts.{exchange_by}
use Rattle.step_prices.proofs.exchange.Statement.{statement}
use Rattle.step_prices.proofs.exchange.Tie as tie

abs-requires : tie.Need-abs-requires
abs-requires c κs = search rules

abs-requires-2 : tie.Need-abs-requires-2
abs-requires-2 c κs = search rules

returns : tie.Need-returns
unfolding exchange_by
returns c =
    let a : tie.After-abs = search in
    rw (a.abs.ensures, c.abs-2.ensures)

pub exchange_spec : {M : Type 1} → statement M
exchange_spec = tie.close (tie.spec abs-requires abs-requires-2 returns)
