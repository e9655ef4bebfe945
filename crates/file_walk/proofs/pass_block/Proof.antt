-- `file_walk::pass_block` meets its contract: each return by its law. Assumes nothing.
use borrow.Author.Rules.{rules}
use Rattle.file_walk.proofs.Laws.{turn_stays, turn_stops, turn_goes}
use Rattle.file_walk.proofs.pass_block.Statement.{statement}
use Rattle.file_walk.proofs.pass_block.Tie as tie

returns : tie.Need-returns-then-s-ne0
returns c = turn_stays _ _ _ _ c.if-s-ne0.true

block-at-requires : tie.Need-block_at-number-requires
block-at-requires c κs = search rules

returns-2 : tie.Need-returns-then-number-ne0
returns-2 c = let a : tie.After-block_at-number = search in let e : tie.Else-s-ne0 = search in turn_stops _ _ _ _ _ e.if-s-ne0.false a.block_at-number.ensures c.if-number-ne0.true

add-t7 : tie.Need-overflow_add-result
add-t7 c = search rules

returns-3 : tie.Need-returns
returns-3 c = let a : tie.After-block_at-number = search in let e : tie.Else-s-ne0 = search in let d : tie.Else-number-ne0 = search in turn_goes _ _ _ _ _ e.if-s-ne0.false a.block_at-number.ensures d.if-number-ne0.false

pub pass_block_spec : {M : Type 1} → statement M
pass_block_spec = tie.close (tie.spec returns block-at-requires returns-2 add-t7 returns-3)
