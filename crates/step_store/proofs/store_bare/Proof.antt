-- `step_store::store_bare` meets its contract: the swap, and the eta store emptied. Assumes nothing.
use borrow.Author.Rules.{rules}
use Prim.Native.Nat.{◌+◌}
use native.Mathlib.Omega.{arith}
use Rattle.doubles.specs.Limits.{eta_columns}
use Rattle.sparse.specs.Scattered.{sv, sv_of}
use Rattle.rules.specs.Parts.{bounded}
use Rattle.state.specs.Packed.{state_at, eta_starts_at}
use Rattle.state.proofs.Sections.{written}
use Rattle.state.proofs.Moves.{as_lent, in_eta_starts}
use Rattle.step_store.proofs.Laws.{emptied_is}
use Rattle.step_store.proofs.store_bare.Statement.{statement}
use Rattle.step_store.proofs.store_bare.Tie as tie

abbrev entry : tie.After-store_swap-t → tie.Start
entry d = search

store-swap-requires : tie.Need-store_swap-t-requires
store-swap-requires c κs = let s : tie.Start = search in (s.requires.0, (s.requires.1.0.0, s.requires.1.1))

slice-write-numbers : tie.Need-bounds-numbers-832
slice-write-numbers c =
    let d : tie.After-store_swap-t = search in
    omega (arith, d.store_swap-t.auto.numbers, (entry d).requires.0.sized)

add-factorings : tie.Need-overflow_add-factorings
add-factorings c = let s : tie.Start = search in omega (arith, s.requires.1.0.1)

same_length : tie.Need-shape_of-numbers
same_length c = search rules

same-length-2 : tie.Need-shape_of-doubles
same-length-2 c = search rules

returns : tie.Need-returns
returns c m rm p =
    let d : tie.After-store_swap-t = search in
    let s = entry d in
    let a = s.args in
    let N = d.store_swap-t.new.numbers in
    let D = d.store_swap-t.new.doubles in
    emptied_is (bounded a.n a.lowers.now a.uppers.now a.ops.now a.kept.now)
    (state_at a.numbers.now a.doubles.now a.at) a.e (sv a.values.now m a.list.now a.count)
    (sv a.row_values.now rm a.row_list.now a.row_count) (sv_of a.helper.now p) a.x
    (d.store_swap-t.ensures m rm p)
    (in_eta_starts (as_lent N D) (written eta_starts_at (eta_columns + 1) N 0 0 (omega arith))).is

pub store_bare_spec : {M : Type 1} → statement M
store_bare_spec =
    tie.close
    (tie.spec store-swap-requires slice-write-numbers add-factorings same_length same-length-2 returns)
