-- `step_store::store_exchange` meets its contract: the swap, and the eta column. Assumes nothing.
use borrow.Author.Rules.{rules}
use mathlib.Core.Path.{◌∙◌}
use mathlib.Core.List.{[]}
use native.Mathlib.Omega.{arith}
use Rattle.sparse.specs.Scattered.{sv, sv_of, blank}
use Rattle.rules.specs.Plan.{Problem, State}
use Rattle.rules.specs.Parts.{bounded}
use Rattle.state.specs.Packed.{state_at}
use Rattle.step_store.proofs.Laws.{exchange_is, room_kept}
use Rattle.step_store.proofs.store_exchange.Statement.{statement}
use Rattle.step_store.proofs.store_exchange.Tie as tie

abbrev entry : tie.After-store_swap-t → tie.Start
entry d = search

abbrev P : tie.Start → Problem
P s = let a = s.args in bounded a.n a.lowers.now a.uppers.now a.ops.now a.kept.now

abbrev before : tie.Start → State
before s = state_at s.args.numbers.now s.args.doubles.now s.args.at

store-swap-requires : tie.Need-store_swap-t-requires
store-swap-requires c κs = let s : tie.Start = search in (s.requires.0, (s.requires.1.0.1, s.requires.1.1))

push-eta-requires : tie.Need-push_eta-requires
push-eta-requires c κs =
    let d : tie.After-store_swap-t = search in
    let s = entry d in
    let a = s.args in
    let w = s.requires.0.sized in
    let l = s.requires.1.1.0 in (
      (
        record {
          numbers_long = d.store_swap-t.auto.numbers ∙ w.numbers_long;
          doubles_long = d.store_swap-t.auto.doubles ∙ w.doubles_long;
        },
        room_kept (P s) (before s) a.e (sv a.values.now [] a.list.now a.count)
            (sv a.row_values.now [] a.row_list.now a.row_count) (sv_of a.helper.now blank.pat) a.x
            (d.store_swap-t.ensures [] [] blank.pat) a.count s.requires.1.0.0,
      ),
      (l.few, record { inside = l.place }),
    )

add-eta-count : tie.Need-overflow_add-eta_count
add-eta-count c = let s : tie.Start = search in omega (arith, s.requires.1.0.0)

same_length : tie.Need-shape_of-numbers
same_length c = search rules

same-length-2 : tie.Need-shape_of-doubles
same-length-2 c = search rules

returns : tie.Need-returns
returns c m rm p =
    let d : tie.After-store_swap-t = search in
    let s = entry d in
    let g : tie.After-push_eta = search in
    let a = s.args in
    exchange_is (P s) (before s) a.e (sv a.values.now m a.list.now a.count)
    (sv a.row_values.now rm a.row_list.now a.row_count) (sv_of a.helper.now p) a.x
    (d.store_swap-t.ensures m rm p) (g.push_eta.ensures m)

pub store_exchange_spec : {M : Type 1} → statement M
store_exchange_spec =
    tie.close
    (tie.spec
    store-swap-requires
    push-eta-requires
    add-eta-count
    same_length
    same-length-2
    returns)
