-- `fix_store::mark` meets its contract: one cell is written. Assumes nothing.
use borrow.Author.Rules.{rules}
use Rattle.fix_store.proofs.Laws.{mark_is}
use Rattle.fix_store.proofs.mark.Statement.{statement}
use Rattle.fix_store.proofs.mark.Tie as tie

pack-flags-requires : tie.Need-pack_flags-requires
pack-flags-requires c κs = search rules

add-numbers : tie.Need-overflow_add-numbers
add-numbers c = search rules

mul-numbers : tie.Need-offset_bounds-numbers-col
mul-numbers c = search rules

slice-write-numbers : tie.Need-bounds-numbers-col
slice-write-numbers c = search rules

same_length : tie.Need-shape_of-numbers
same_length c = search rules

returns : tie.Need-returns
returns c E F G t =
    let s : tie.Start = search in
    let f : tie.After-pack_flags = search in
    mark_is s.args.numbers.now E F G t s.args.col s.requires.1 _ f.pack_flags.ensures

pub mark_spec : {M : Type 1} → statement M
mark_spec =
    tie.close
    (tie.spec pack-flags-requires add-numbers mul-numbers slice-write-numbers same_length returns)
