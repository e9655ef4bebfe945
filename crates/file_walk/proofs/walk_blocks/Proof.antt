-- `file_walk::walk_blocks` meets its contract. Assumes nothing.
use borrow.Author.Rules.{rules}
use Rattle.file_walk.proofs.Laws.{walked, walked_place}
use Rattle.file_walk.proofs.walk_blocks.Statement.{statement}
use Rattle.file_walk.proofs.walk_blocks.Tie as tie

pass-blocks-requires : tie.Need-pass_blocks-s-requires
pass-blocks-requires c κs = search rules

pass-end-requires : tie.Need-pass_end-requires
pass-end-requires c κs = let s : tie.Start = search in walked_place _ _ _ _ s.requires.0 s.requires.1 c.pass_blocks-s.ensures

returns : tie.Need-returns
returns c = walked _ _ _ _ _ c.pass_blocks-s.ensures c.pass_end.ensures

pub walk_blocks_spec : {M : Type 1} → statement M
walk_blocks_spec = tie.close (tie.spec pass-blocks-requires pass-end-requires returns)
