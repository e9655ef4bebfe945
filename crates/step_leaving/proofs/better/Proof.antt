-- `step_leaving::better`: by its tests. Assumes nothing.
use borrow.Author.Rules.{rules}
use Rattle.step_leaving.proofs.Answers.{turn_inside, turn_takes, turn_keeps}
use Rattle.step_leaving.proofs.better.Statement.{statement}
use Rattle.step_leaving.proofs.better.Tie as tie

outside-requires : tie.Need-outside-requires
outside-requires c κs = search rules

infeasibility-requires : tie.Need-infeasibility-off-requires
infeasibility-requires c κs = search rules

returns : tie.Need-returns-then-best-score
returns c =
    let i : tie.After-infeasibility-off = search in
    turn_takes _ _ _ _ _ _ i.outside.ensures i.if-outside.true i.infeasibility-off.ensures c.if-best-score.true

returns-2 : tie.Need-returns-then-outside
returns-2 c =
    let i : tie.After-infeasibility-off = search in
    turn_keeps _ _ _ _ _ _ i.outside.ensures i.if-outside.true i.infeasibility-off.ensures c.if-best-score.false

returns-3 : tie.Need-returns
returns-3 c = turn_inside _ _ _ _ _ _ c.outside.ensures c.if-outside.false

pub better_spec : {M : Type 1} → statement M
better_spec =
    tie.close (tie.spec outside-requires infeasibility-requires returns returns-2 returns-3)
