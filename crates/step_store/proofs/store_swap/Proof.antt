-- `step_store::store_swap` meets its contract: its two halves and the objective make the whole. Assumes nothing.
use borrow.Author.Rules.{rules}
use mathlib.Core.Path.{◌∙◌}
use native.Mathlib.Omega.{arith}
use Rattle.sparse.specs.Scattered.{sv, sv_of}
use Rattle.rules.specs.Parts.{bounded}
use Rattle.rules.specs.Pivot.{new_objective}
use Rattle.state.specs.Packed.{state_at}
use Rattle.step_store.proofs.Laws.{swap_is}
use Rattle.step_store.proofs.store_swap.Statement.{statement}
use Rattle.step_store.proofs.store_swap.Tie as tie

-- where the first half was stored, from where the second was, and the entry
abbrev first : tie.After-store_basis → tie.After-store_numbers
first f = search

abbrev entry : tie.After-store_numbers → tie.Start
entry d = search

store-numbers-requires : tie.Need-store_numbers-requires
store-numbers-requires c κs = search rules

store-basis-requires : tie.Need-store_basis-requires
store-basis-requires c κs =
    let s : tie.Start = search in
    let d : tie.After-store_numbers = search in
    let w = s.requires.0 in
    record {
      sized = record {
        numbers_long = w.sized.numbers_long;
        doubles_long = d.store_numbers.auto.doubles ∙ w.sized.doubles_long;
      };
      few = w.few;
      row_inside = w.row_inside;
      col_inside = w.col_inside;
      enters = w.enters;
      leaves = w.leaves;
      leaves_bounds = w.leaves_bounds;
    }

add-taken : tie.Need-overflow_add-taken
add-taken c = let s : tie.Start = search in omega (arith, s.requires.1.0)

new-objective-requires : tie.Need-new_objective-requires
new-objective-requires c κs = search rules

same_length : tie.Need-shape_of-numbers
same_length c = search rules

same-length-2 : tie.Need-shape_of-doubles
same-length-2 c = search rules

returns : tie.Need-returns
unfolding new_objective
returns c m rm p =
    let f : tie.After-store_basis = search in
    let d = first f in
    let s = entry d in
    let o : tie.After-new_objective = search in
    let a = s.args in
    swap_is (bounded a.n a.lowers.now a.uppers.now a.ops.now a.kept.now)
    (state_at a.numbers.now a.doubles.now a.at) a.e (sv a.values.now m a.list.now a.count)
    (sv a.row_values.now rm a.row_list.now a.row_count) (sv_of a.helper.now p) a.x
    (d.store_numbers.ensures a.numbers.now m rm p) f.store_basis.ensures o.new_objective.ensures

pub store_swap_spec : {M : Type 1} → statement M
store_swap_spec =
    tie.close
    (tie.spec
    store-numbers-requires
    store-basis-requires
    add-taken
    new-objective-requires
    same_length
    same-length-2
    returns)
