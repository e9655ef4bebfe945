-- `step_prices::eligible`: the definition's own test. Assumes nothing.
use borrow.Author.Rules.{rules}
use Rattle.rules.specs.DualRatio.{eligible}
use Rattle.step_prices.proofs.eligible.Statement.{statement}
use Rattle.step_prices.proofs.eligible.Tie as tie

may-move-requires : tie.Need-may_move-requires
may-move-requires c κs = search rules

may-move-requires-2 : tie.Need-may_move-requires-2
may-move-requires-2 c κs = search rules

returns : tie.Need-returns
unfolding eligible
returns c =
    let a : tie.After-may_move = search in
    rw (a.may_move.ensures, c.may_move-2.ensures)

pub eligible_spec : {M : Type 1} → statement M
eligible_spec = tie.close (tie.spec may-move-requires may-move-requires-2 returns)
