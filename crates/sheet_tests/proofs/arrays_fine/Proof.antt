-- `sheet_tests::arrays_fine` meets its contract. Assumes nothing.
use borrow.Author.Rules.{rules}
use Rattle.sheet_rules.specs.Opening.{arrays_fine}
use Rattle.sheet_tests.proofs.arrays_fine.Statement.{statement}
use Rattle.sheet_tests.proofs.arrays_fine.Tie as tie

all-within-requires : tie.Need-all_within-requires
all-within-requires c κs = search rules

bounds-fine-requires : tie.Need-bounds_fine-requires
bounds-fine-requires c κs = search rules

bounds-fine-requires-2 : tie.Need-bounds_fine-requires-2
bounds-fine-requires-2 c κs = search rules

all-within-requires-2 : tie.Need-all_within-requires-2
all-within-requires-2 c κs = search rules

ops-fine-requires : tie.Need-ops_fine-requires
ops-fine-requires c κs = search rules

all-within-requires-3 : tie.Need-all_within-requires-3
all-within-requires-3 c κs = search rules

all-within-requires-4 : tie.Need-all_within-requires-4
all-within-requires-4 c κs = search rules

returns : tie.Need-returns
unfolding arrays_fine
returns c =
    let at-all-within2 : tie.After-all_within-2 = search in
    let at-bounds-fine2 : tie.After-bounds_fine-2 = search in
    let at-bounds-fine : tie.After-bounds_fine = search in
    let at-all-within : tie.After-all_within = search in
    rw (at-all-within.all_within.ensures, at-bounds-fine.bounds_fine.ensures, at-bounds-fine2.bounds_fine-2.ensures, at-all-within2.all_within-2.ensures, c.ops_fine.ensures, c.all_within-3.ensures, c.all_within-4.ensures)

pub arrays_fine_spec : {M : Type 1} → statement M
arrays_fine_spec =
    tie.close
    (tie.spec
    all-within-requires
    bounds-fine-requires
    bounds-fine-requires-2
    all-within-requires-2
    ops-fine-requires
    all-within-requires-3
    all-within-requires-4
    returns)
