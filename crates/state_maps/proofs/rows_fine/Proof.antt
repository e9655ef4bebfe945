-- `state_maps::rows_fine`: against the rows found anew. Assumes nothing.
use mathlib.Core.Path.{◌∙◌}
use mathlib.Core.List.{[]}
use borrow.Author.Rules.{rules}
use native.Mathlib.Omega.{arith}
use Rattle.plan.specs.Lent.{rows_of}
use Rattle.state_maps.proofs.Laws.{kept_few, other_count, rows_are, found_long}
use Rattle.state_maps.proofs.rows_fine.Statement.{statement}
use Rattle.state_maps.proofs.rows_fine.Tie as tie

slice-aggregate-keep-rows : tie.Need-slice_bounds-keep_rows-end
slice-aggregate-keep-rows c = search rules

keep-rows-requires : tie.Need-keep_rows-m-requires
keep-rows-requires c κs = search rules

returns : tie.Need-returns-then-count-m
returns c = let k : tie.After-keep_rows-m = search in
    other_count k.keep_rows-m.ensures _ _ c.if-count-m.true

slice-aggregate-same : tie.Need-slice_bounds-same-end
slice-aggregate-same c = search rules

same-requires : tie.Need-same-requires
same-requires c κs =
    let k : tie.After-keep_rows-m = search in
    let s : tie.Start = search in
    (omega (arith, k.keep_rows-m.ensures.counted, kept_few (rows_of 0 s.args.rows s.args.starts.now []), s.requires), found_long k.keep_rows-m.ensures 0 [])

returns-2 : tie.Need-returns
returns-2 c = let k : tie.After-keep_rows-m = search in
    let e : tie.Else-count-m = search in
    c.same.ensures ∙ rows_are k.keep_rows-m.ensures _ _ e.if-count-m.false

pub rows_fine_spec : {M : Type 1} → statement M
rows_fine_spec =
    tie.close
    (tie.spec slice-aggregate-keep-rows keep-rows-requires returns slice-aggregate-same same-requires returns-2)
