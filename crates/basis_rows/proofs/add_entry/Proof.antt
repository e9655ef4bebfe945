-- `basis_rows::add_entry` meets its contract: the variable's cell is touched, then x is added there. Assumes nothing.
use borrow.Author.Rules.{rules}
use Prim.Native.Nat.{◌<◌}
use native.Mathlib.Omega.{arith}
use Rattle.doubles.specs.Limits.{vars}
use Rattle.doubles.specs.Lists.{◌#◌}
use Rattle.basis_rows.proofs.Wide.{cell_within, entry_added}
use Rattle.basis_rows.proofs.add_entry.Statement.{statement}
use Rattle.basis_rows.proofs.add_entry.Tie as tie

within : (d : tie.After-cell_in-c) → d.cell_in-c.result < vars
within d =
    let s : tie.Start = search in
    rw d.cell_in-c.ensures (cell_within (s.args.var_states.now # s.args.v))

mul-cell-in : tie.Need-offset_bounds-var_states-v
mul-cell-in c = search rules

shared-slice-read-cell-in : tie.Need-bounds-var_states-v
shared-slice-read-cell-in c = search rules

cell-in-requires : tie.Need-cell_in-c-requires
cell-in-requires c κs = search rules

touch-requires : tie.Need-touch-k-requires
touch-requires c κs =
    let s : tie.Start = search in
    let d : tie.After-cell_in-c = search in
    (within d, s.requires.1, s.requires.0.wf, s.requires.2)

mul-values : tie.Need-offset_bounds-values-c
mul-values c = let d : tie.After-cell_in-c = search in omega (arith, within d)

element-copy-out-values : tie.Need-bounds-values-c
element-copy-out-values c = let d : tie.After-cell_in-c = search in within d

mul-values-2 : tie.Need-offset_bounds-values-c-2
mul-values-2 c = let d : tie.After-cell_in-c = search in omega (arith, within d)

element-write-values : tie.Need-bounds-values-c-2
element-write-values c = let d : tie.After-cell_in-c = search in within d

returns : tie.Need-returns
returns c =
    let s : tie.Start = search in
    let d : tie.After-cell_in-c = search in
    let t : tie.After-touch-k = search in
    let e =
    entry_added _ s.requires.1 s.args.var_states.now s.args.v s.args.x s.args.values.now _ _ _
    s.requires.0 _ _ d.cell_in-c.ensures t.touch-k.ensures.0 in
    (e, t.touch-k.ensures.1)

pub add_entry_spec : {M : Type 1} → statement M
add_entry_spec =
    tie.close
    (tie.spec
    mul-cell-in
    shared-slice-read-cell-in
    cell-in-requires
    touch-requires
    mul-values
    element-copy-out-values
    mul-values-2
    element-write-values
    returns)
