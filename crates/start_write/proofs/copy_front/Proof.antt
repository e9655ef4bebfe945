-- `start_write::copy_front` meets its contract: after j turns the first j cells are filled. Assumes nothing.
use mathlib.Core.Path.{◌≡◌, refl}
use Prim.Native.Nat.{◌-◌, ◌≤◌}
use lib.ListN.{length, length-set}
use Rattle.doubles.proofs.Loops.{Filled, filled_none, filled_more, filled_over}
use Rattle.doubles.specs.Lists.{◌!◌}
use borrow.Author.Rules.{rules}
use native.Mathlib.Omega.{arith}
use Rattle.start_write.proofs.copy_front.Statement.{statement}
use Rattle.start_write.proofs.copy_front.Tie as tie

abbrev invariant-loop : tie.invariant-loop-j
invariant-loop n from to₀ j₀ to j = (j ≤ n) × (length to ≡ length to₀) × Filled (λ i. from ! i) to₀ j to

abbrev decreases-loop : tie.decreases-loop-j
decreases-loop n from to₀ j₀ to j = n - j

loop-holds : tie.Need-loop-j-init invariant-loop decreases-loop
loop-holds c = (omega arith, refl, filled_none)

mul-to : tie.Need-offset_bounds-from-j invariant-loop decreases-loop
mul-to c = omega arith

shared-slice-read-to : tie.Need-bounds-from-j invariant-loop decreases-loop
shared-slice-read-to c = omega arith

mul-to-2 : tie.Need-offset_bounds-to-j invariant-loop decreases-loop
mul-to-2 c = omega arith

slice-write-to : tie.Need-bounds-to-j invariant-loop decreases-loop
slice-write-to c = omega arith

add-j : tie.Need-overflow_step-j invariant-loop decreases-loop
add-j c = omega arith

loop-less : tie.Need-loop-j-smaller invariant-loop decreases-loop
loop-less c = omega arith

loop-again : tie.Need-loop-j-preserved invariant-loop decreases-loop
loop-again c =
    let t : tie.In-loop-j invariant-loop decreases-loop = search in
    (omega arith, simp length-set t.loop-j.invariant.1, filled_more t.loop-j.invariant.2 (omega arith) (refl))

same_length : tie.Need-shape_of-to invariant-loop decreases-loop
same_length c = search rules

returns : tie.Need-returns invariant-loop decreases-loop
returns c =
    let s : tie.Start invariant-loop decreases-loop = search in
    let q : c.loop-j.j ≡ s.args.n = omega arith in
    filled_over (rw q at c.loop-j.invariant.2)

pub copy_front_spec : {M : Type 1} → statement M
copy_front_spec =
    tie.close
    (tie.spec
    invariant-loop
    decreases-loop
    loop-holds
    mul-to
    shared-slice-read-to
    mul-to-2
    slice-write-to
    add-j
    loop-less
    loop-again
    same_length
    returns)
