-- `basis_store::write_column` meets its contract: after k turns the tail is the definition's after k turns, and so as long as it was. Assumes nothing.
use borrow.Author.Rules.{rules}
use mathlib.Core.Path.{◌≡◌, refl, sym, subst}
use mathlib.Core.List.{[]}
use Prim.Native.Nat.{◌-◌, ◌<◌, ◌≤◌}
use native.Mathlib.Omega.{arith}
use lib.ListN.{length, get_or}
use Rattle.doubles.specs.Limits.{places}
use Rattle.doubles.specs.Loop.{run}
use Rattle.doubles.proofs.Loops.{next, done}
use Rattle.sparse.specs.Scattered.{sv}
use Rattle.rules.specs.Basis.{tail, write_turn, write_column}
use Rattle.basis_store.proofs.Laws.{Long, writing_long}
use Rattle.basis_store.proofs.write_column.Statement.{statement}
use Rattle.basis_store.proofs.write_column.Tie as tie

abbrev invariant-loop : tie.invariant-loop-k
invariant-loop out-rows₀ out-coeffs₀ values list count row pivot k₀ out-rows out-coeffs k =
    (k ≤ count) × (tail out-rows out-coeffs ≡ run (write_turn (sv values [] list count) row pivot) k (tail out-rows₀ out-coeffs₀))

abbrev decreases-loop : tie.decreases-loop-k
decreases-loop out-rows₀ out-coeffs₀ values list count row pivot k₀ out-rows out-coeffs k = count - k

abbrev entry : tie.At-loop-k invariant-loop decreases-loop → tie.Start invariant-loop decreases-loop
entry a = search

-- at the loop's head the lengths are as they were
ok : (a : tie.At-loop-k invariant-loop decreases-loop) → Long (length (entry a).args.out_rows.now) (length (entry a).args.out_coeffs.now) (tail a.loop-k.out_rows a.loop-k.out_coeffs)
ok a =
    let s = (entry a).args in
    subst (Long _ _) (sym a.loop-k.invariant.1)
    (writing_long (sv s.values.now [] s.list.now s.count) s.row s.pivot (tail s.out_rows.now s.out_coeffs.now) a.loop-k.k a.loop-k.invariant.0)

-- in a turn the place is within the vector
place : (t : tie.In-loop-k invariant-loop decreases-loop) → get_or (entry t.before).args.list.now t.loop-k.k 0 < places
place t = (entry t.before).requires.1.1.inside t.loop-k.k t.loop-k-test.true

loop-holds : tie.Need-loop-k-init invariant-loop decreases-loop
unfolding run
loop-holds c = (omega arith, refl)

mul-r : tie.Need-offset_bounds-list-k invariant-loop decreases-loop
mul-r c = let t : tie.In-loop-k invariant-loop decreases-loop = search in omega (arith, ok t.before, place t)

element-copy-out-r : tie.Need-bounds-list-k invariant-loop decreases-loop
element-copy-out-r c = let t : tie.In-loop-k invariant-loop decreases-loop = search in omega (arith, ok t.before, place t)

mul-out-rows : tie.Need-offset_bounds-out_rows-k invariant-loop decreases-loop
mul-out-rows c = let t : tie.In-loop-k invariant-loop decreases-loop = search in omega (arith, ok t.before, place t)

slice-write-out-rows : tie.Need-bounds-out_rows-k invariant-loop decreases-loop
slice-write-out-rows c = let t : tie.In-loop-k invariant-loop decreases-loop = search in omega (arith, ok t.before, place t)

mul-eta-entry : tie.Need-offset_bounds-values-r invariant-loop decreases-loop
mul-eta-entry c = let t : tie.In-loop-k invariant-loop decreases-loop = search in omega (arith, ok t.before, place t)

element-copy-out-eta-entry : tie.Need-bounds-values-r invariant-loop decreases-loop
element-copy-out-eta-entry c = let t : tie.In-loop-k invariant-loop decreases-loop = search in omega (arith, ok t.before, place t)

eta-entry-requires : tie.Need-eta_entry-requires invariant-loop decreases-loop
eta-entry-requires c κs = search rules

mul-out-coeffs : tie.Need-offset_bounds-out_coeffs-k invariant-loop decreases-loop
mul-out-coeffs c = let t : tie.In-loop-k invariant-loop decreases-loop = search in omega (arith, ok t.before, place t)

slice-write-out-coeffs : tie.Need-bounds-out_coeffs-k invariant-loop decreases-loop
slice-write-out-coeffs c = let t : tie.In-loop-k invariant-loop decreases-loop = search in omega (arith, ok t.before, place t)

add-k : tie.Need-overflow_step-k invariant-loop decreases-loop
add-k c = let t : tie.In-loop-k invariant-loop decreases-loop = search in omega (arith, ok t.before, place t)

loop-less : tie.Need-loop-k-smaller invariant-loop decreases-loop
loop-less c = let t : tie.In-loop-k invariant-loop decreases-loop = search in omega (arith, ok t.before, place t)

loop-again : tie.Need-loop-k-preserved invariant-loop decreases-loop
loop-again c =
    let t : tie.In-loop-k invariant-loop decreases-loop = search in
    let d : tie.After-eta_entry invariant-loop decreases-loop = search in
    (omega arith, next _ _ t.loop-k.k t.loop-k.invariant.1 (cc d.eta_entry.ensures))

same_length : tie.Need-shape_of-out_rows invariant-loop decreases-loop
same_length c = (ok c.before).rows_long

same-length-2 : tie.Need-shape_of-out_coeffs invariant-loop decreases-loop
same-length-2 c = (ok c.before).coeffs_long

returns : tie.Need-returns invariant-loop decreases-loop
unfolding write_column
returns c = λ _. done _ _ _ _ c.loop-k.invariant.0 c.loop-k-test.false c.loop-k.invariant.1

pub write_column_spec : {M : Type 1} → statement M
write_column_spec =
    tie.close
    (tie.spec
    invariant-loop
    decreases-loop
    loop-holds
    mul-r
    element-copy-out-r
    mul-out-rows
    slice-write-out-rows
    mul-eta-entry
    element-copy-out-eta-entry
    eta-entry-requires
    mul-out-coeffs
    slice-write-out-coeffs
    add-k
    loop-less
    loop-again
    same_length
    same-length-2
    returns)
