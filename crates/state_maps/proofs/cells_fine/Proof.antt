-- `state_maps::cells_fine`: places, rows and cells. Assumes nothing.
use mathlib.Core.List.{[]}
use borrow.Author.Rules.{rules}
use Rattle.rules.specs.Parts.{workspace_of, no_etas}
use Rattle.state_maps.proofs.Laws.{cells_are}
use Rattle.state_maps.proofs.cells_fine.Statement.{statement}
use Rattle.state_maps.proofs.cells_fine.Tie as tie

add-vars : tie.Need-overflow_add-vars
add-vars c = search rules

all-lead-back-requires : tie.Need-all_lead_back-requires
all-lead-back-requires c κs = search rules

all-lead-back-requires-2 : tie.Need-all_lead_back-requires-2
all-lead-back-requires-2 c κs = search rules

all-below-requires : tie.Need-all_below-requires
all-below-requires c κs = search rules

returns : tie.Need-returns
returns c =
    let s : tie.Start = search in
    let a = s.args in
    cells_are a.n a.m (workspace_of a.basic.now [] a.nonbasic.now [] [] [] [] [] a.states.now no_etas)
    c.all_lead_back.ensures c.all_lead_back-2.ensures c.all_below.ensures

pub cells_fine_spec : {M : Type 1} → statement M
cells_fine_spec =
    tie.close (tie.spec add-vars all-lead-back-requires all-lead-back-requires-2 all-below-requires returns)
