-- `sparse::put_at` meets its contract: the touch, then the store. Assumes nothing.
use mathlib.Core.Path.{ap}
use Rattle.sparse.specs.Scattered.{sv_of, put_at}
use borrow.Author.Rules.{rules}
use Rattle.sparse.proofs.put_at.Statement.{statement}
use Rattle.sparse.proofs.put_at.Tie as tie

touch-requires : tie.Need-touch-n-requires
touch-requires c κs = search rules

mul-values : tie.Need-offset_bounds-values-i
mul-values c = search rules

element-write-values : tie.Need-bounds-values-i
element-write-values c = search rules

returns : tie.Need-returns
unfolding put_at
returns c =
    let d : tie.After-touch-n = search in
    ap (sv_of _) d.touch-n.ensures

pub put_at_spec : {M : Type 1} → statement M
put_at_spec = tie.close (tie.spec touch-requires mul-values element-write-values returns)
