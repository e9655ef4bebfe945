-- `state_maps::maps_fine`: the tests over the sections of `numbers`. Assumes nothing.
use mathlib.Core.Path.{◌≡◌, sym, ◌∙◌}
use mathlib.Core.Bool.{true}
use mathlib.Core.List.{[]}
use Prim.Native.Nat.{◌≤◌}
use native.Mathlib.Omega.{arith}
use lib.ListN.{get_or}
use Rattle.doubles.specs.Num.{f0}
use Rattle.doubles.specs.Limits.{max_rows, max_columns, vars, count_cells}
use Rattle.doubles.specs.Lists.{◌#◌}
use Rattle.doubles.proofs.Bools.{turned, turned_true, itself}
use Rattle.rules.specs.Plan.{Plan, Memory, kept_rows}
use Rattle.rules.specs.Parts.{plan_of}
use Rattle.state.specs.Packed.{basic_vars_at, nb_vars_at, var_states_at, counts_at}
use Rattle.state.specs.Memory.{memory_in}
use Rattle.state.proofs.Sections.{section_at, section_length}
use Rattle.state_maps.specs.Maps.{rows_fine, cells_fine}
use Rattle.state_maps.proofs.Laws.{kept_few, rows_count, other_rows, same_rows}
use borrow.Author.Rules.{rules}
use Rattle.state_maps.proofs.maps_fine.Statement.{statement}
use Rattle.state_maps.proofs.maps_fine.Tie as tie

abbrev p : tie.Start → Plan
p s = plan_of s.args.columns s.args.rows 0 0 f0 [] [] [] s.args.starts.now [] [] [] []

abbrev m : tie.Start → Memory
m s = memory_in [] s.args.numbers.now [] [] []

-- what the rows' test says
abbrev start : tie.After-rows_fine → tie.Start
start r = search

told : (r : tie.After-rows_fine)
    → r.rows_fine.result ≡ rows_fine (kept_rows (p (start r))) ((m (start r)).counts # 0) (m (start r)).kept
unfolding kept_rows
told r = rw (section_at counts_at count_cells (start r).args.numbers.now 0 0 (omega arith)) r.rows_fine.ensures

-- the count is the plan's, once that test has passed
abbrev rowed : tie.Else-not-rows_fine → tie.After-rows_fine
rowed e = search

passed : (e : tie.Else-not-rows_fine) → (rowed e).rows_fine.result ≡ true
passed e = (turned itself).0 e.if-not-rows_fine.false-raw

few : (e : tie.Else-not-rows_fine) → get_or (start (rowed e)).args.numbers.now counts_at 0 ≤ (start (rowed e)).args.rows
few e =
    let s = start (rowed e) in
    let N = s.args.numbers.now in
    omega
    (arith, section_at counts_at count_cells N 0 0 (omega arith), rows_count _ _ _ (sym (told (rowed e)) ∙ passed e), kept_few (p s))

shared-slice-read-count : tie.Need-bounds-numbers-5281
shared-slice-read-count c = search rules

sub-rows-fine : tie.Need-slice_bounds-rows_fine-count
sub-rows-fine c = search rules

part-rows-fine-start : tie.Need-slice_bounds-rows_fine-start
part-rows-fine-start c = search rules

part-rows-fine-end : tie.Need-slice_bounds-rows_fine-end
part-rows-fine-end c = search rules

rows-fine-requires : tie.Need-rows_fine-requires
rows-fine-requires c κs = search rules

returns : tie.Need-returns-then-not-rows_fine
returns c = let s : tie.Start = search in
    let r : tie.After-rows_fine = search in
    other_rows (p s) (m s) (told r) ((turned_true itself).0 c.if-not-rows_fine.true-raw)

sub-cells-fine : tie.Need-slice_bounds-cells_fine-count
sub-cells-fine c = search rules

part-cells-fine-start : tie.Need-slice_bounds-cells_fine-start
part-cells-fine-start c = search rules

part-cells-fine-end : tie.Need-slice_bounds-cells_fine-end
part-cells-fine-end c = search rules

sub-cells-fine-2 : tie.Need-slice_bounds-cells_fine-count-2
sub-cells-fine-2 c = search rules

part-cells-fine-start-2 : tie.Need-slice_bounds-cells_fine-start-2
part-cells-fine-start-2 c = search rules

part-cells-fine-end-2 : tie.Need-slice_bounds-cells_fine-end-2
part-cells-fine-end-2 c = search rules

sub-cells-fine-3 : tie.Need-slice_bounds-cells_fine-count-3
sub-cells-fine-3 c = search rules

part-cells-fine-start-3 : tie.Need-slice_bounds-cells_fine-start-3
part-cells-fine-start-3 c = search rules

part-cells-fine-end-3 : tie.Need-slice_bounds-cells_fine-end-3
part-cells-fine-end-3 c = search rules

cells-fine-requires : tie.Need-cells_fine-requires
cells-fine-requires c κs =
    let e : tie.Else-not-rows_fine = search in
    let s = start (rowed e) in
    let N = s.args.numbers.now in (
      s.requires.0,
      omega (arith, few e, s.requires),
      omega (arith, few e, s.requires, section_length basic_vars_at max_rows N (omega (arith, s.requires))),
      omega (arith, s.requires, section_length nb_vars_at max_columns N (omega (arith, s.requires))),
      omega (arith, few e, s.requires, section_length var_states_at vars N (omega (arith, s.requires))),
    )

returns-2 : tie.Need-returns
unfolding cells_fine
returns-2 c =
    let e : tie.Else-not-rows_fine = search in
    let s = start (rowed e) in
    c.cells_fine.ensures
    ∙ rw (section_at counts_at count_cells s.args.numbers.now 0 0 (omega arith)) at
    (same_rows (p s) (m s) (told (rowed e)) (passed e))

pub maps_fine_spec : {M : Type 1} → statement M
maps_fine_spec =
    tie.close
    (tie.spec
    shared-slice-read-count
    sub-rows-fine
    part-rows-fine-start
    part-rows-fine-end
    rows-fine-requires
    returns
    sub-cells-fine
    part-cells-fine-start
    part-cells-fine-end
    sub-cells-fine-2
    part-cells-fine-start-2
    part-cells-fine-end-2
    sub-cells-fine-3
    part-cells-fine-start-3
    part-cells-fine-end-3
    cells-fine-requires
    returns-2)
