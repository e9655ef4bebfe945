-- `lu_solve::dense` meets its contract, by the kind of triangle. Assumes nothing.
use borrow.Author.Rules.{rules}
use Rattle.lu_solve.specs.Solve.{dense}
use Rattle.lu_solve.proofs.dense.Statement.{statement}
use Rattle.lu_solve.proofs.dense.Tie as tie

dense-lower-requires : tie.Need-dense_lower-requires
dense-lower-requires c κs = let s : tie.Start = search in let i : tie.Then-lower = search in rw i.if-lower.true at s.requires

dense-upper-requires : tie.Need-dense_upper-requires
dense-upper-requires c κs = let s : tie.Start = search in let i : tie.Else-lower = search in rw i.if-lower.false at s.requires

same_length : tie.Need-shape_of-values-then-lower
same_length c = search rules

returns : tie.Need-returns-then-lower
unfolding dense
returns c = let i : tie.Then-lower = search in let d : tie.After-dense_lower = search in rw i.if-lower.true d.dense_lower.ensures

same-length-2 : tie.Need-shape_of-values-else-lower
same-length-2 c = search rules

returns-2 : tie.Need-returns-else-lower
unfolding dense
returns-2 c = let i : tie.Else-lower = search in let d : tie.After-dense_upper = search in rw i.if-lower.false d.dense_upper.ensures

pub dense_spec : {M : Type 1} → statement M
dense_spec =
    tie.close
    (tie.spec
    dense-lower-requires
    dense-upper-requires
    same_length
    returns
    same-length-2
    returns-2)
