-- `file_open::arrays_fine` meets its contract. Assumes nothing.
use mathlib.Core.Path.{◌≡◌}
use lib.ListN.{length}
use borrow.Author.Rules.{rules}
use Rattle.sheet_rules.specs.Opening.{arrays_fine}
use Rattle.file_open.specs.Places.{plan_at}
use Rattle.file_open.proofs.Laws.{Placed, placed, within_table, bounds_table, ops_table}
use Rattle.file_open.proofs.arrays_fine.Statement.{statement}
use Rattle.file_open.proofs.arrays_fine.Tie as tie

in_file : (c : tie.After-layout-p) → Placed c.args.rows c.args.columns c.layout-p.result (length c.args.file.now)
in_file c = placed _ _ _ _ c.layout-p.ensures c.requires.there

layout-requires : tie.Need-layout-p-requires
layout-requires c κs = search rules

all-within-requires : tie.Need-all_within-requires
all-within-requires c κs = let l : tie.After-layout-p = search in (in_file l).costs_in

bounds-fine-requires : tie.Need-bounds_fine-requires
bounds-fine-requires c κs = let l : tie.After-layout-p = search in ((in_file l).lower_marks_in, (in_file l).lowers_in)

bounds-fine-requires-2 : tie.Need-bounds_fine-requires-2
bounds-fine-requires-2 c κs = let l : tie.After-layout-p = search in ((in_file l).upper_marks_in, (in_file l).uppers_in)

all-within-requires-2 : tie.Need-all_within-requires-2
all-within-requires-2 c κs = let l : tie.After-layout-p = search in (in_file l).rhs_in

ops-fine-requires : tie.Need-ops_fine-requires
ops-fine-requires c κs = let l : tie.After-layout-p = search in (in_file l).ops_in

all-within-requires-3 : tie.Need-all_within-requires-3
all-within-requires-3 c κs = let l : tie.After-layout-p = search in (in_file l).amounts_in

all-within-requires-4 : tie.Need-all_within-requires-4
all-within-requires-4 c κs = let l : tie.After-layout-p = search in (in_file l).mults_in

returns : tie.Need-returns
unfolding arrays_fine plan_at
returns c =
    let l : tie.After-layout-p = search in
    let a : tie.After-all_within = search in
    let b : tie.After-bounds_fine = search in
    let d : tie.After-bounds_fine-2 = search in
    let e : tie.After-all_within-2 = search in
    let o : tie.After-ops_fine = search in
    let x : tie.After-all_within-3 = search in
    rw (a.all_within.ensures, b.bounds_fine.ensures, d.bounds_fine-2.ensures, e.all_within-2.ensures, o.ops_fine.ensures, x.all_within-3.ensures, c.all_within-4.ensures, l.layout-p.ensures)
    (simp (within_table, bounds_table, ops_table))

pub arrays_fine_spec : {M : Type 1} → statement M
arrays_fine_spec =
    tie.close
    (tie.spec
    layout-requires
    all-within-requires
    bounds-fine-requires
    bounds-fine-requires-2
    all-within-requires-2
    ops-fine-requires
    all-within-requires-3
    all-within-requires-4
    returns)
