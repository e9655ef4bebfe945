-- `start_write::count_from` meets its contract: after c turns the first c cells are filled. Assumes nothing.
use mathlib.Core.Path.{◌≡◌, refl}
use Prim.Native.Nat.{◌+◌, ◌-◌, ◌≤◌}
use lib.ListN.{length, length-set}
use Rattle.doubles.proofs.Loops.{Filled, filled_none, filled_more, filled_over}
use borrow.Author.Rules.{rules}
use native.Mathlib.Omega.{arith}
use Rattle.start_write.proofs.count_from.Statement.{statement}
use Rattle.start_write.proofs.count_from.Tie as tie

abbrev invariant-loop : tie.invariant-loop-c
invariant-loop first n to₀ c₀ to c = (c ≤ n) × (length to ≡ length to₀) × Filled (λ i. first + i) to₀ c to

abbrev decreases-loop : tie.decreases-loop-c
decreases-loop first n to₀ c₀ to c = n - c

loop-holds : tie.Need-loop-c-init invariant-loop decreases-loop
loop-holds c = (omega arith, refl, filled_none)

add-to : tie.Need-overflow_add-to invariant-loop decreases-loop
add-to c = omega arith

mul-to : tie.Need-offset_bounds-to-c invariant-loop decreases-loop
mul-to c = omega arith

slice-write-to : tie.Need-bounds-to-c invariant-loop decreases-loop
slice-write-to c = omega arith

add-c : tie.Need-overflow_step-c invariant-loop decreases-loop
add-c c = omega arith

loop-less : tie.Need-loop-c-smaller invariant-loop decreases-loop
loop-less c = omega arith

loop-again : tie.Need-loop-c-preserved invariant-loop decreases-loop
loop-again c =
    let t : tie.In-loop-c invariant-loop decreases-loop = search in
    (omega arith, simp length-set t.loop-c.invariant.1, filled_more t.loop-c.invariant.2 (omega arith) (refl))

same_length : tie.Need-shape_of-to invariant-loop decreases-loop
same_length c = search rules

returns : tie.Need-returns invariant-loop decreases-loop
returns c =
    let s : tie.Start invariant-loop decreases-loop = search in
    let q : c.loop-c.c ≡ s.args.n = omega arith in
    filled_over (rw q at c.loop-c.invariant.2)

pub count_from_spec : {M : Type 1} → statement M
count_from_spec =
    tie.close
    (tie.spec
    invariant-loop
    decreases-loop
    loop-holds
    add-to
    mul-to
    slice-write-to
    add-c
    loop-less
    loop-again
    same_length
    returns)
