-- `start_write::write_dual_norms` meets its contract: after r turns the first r cells are filled. Assumes nothing.
use mathlib.Core.Path.{◌≡◌, refl}
use Prim.Native.Nat.{◌-◌, ◌≤◌}
use lib.ListN.{length, length-set}
use Rattle.doubles.proofs.Loops.{Filled, filled_none, filled_more, filled_over}
use Rattle.doubles.specs.Num.{f1}
use borrow.Author.Rules.{rules}
use native.Mathlib.Omega.{arith}
use Rattle.start_write.proofs.write_dual_norms.Statement.{statement}
use Rattle.start_write.proofs.write_dual_norms.Tie as tie

abbrev invariant-loop : tie.invariant-loop-r
invariant-loop m norms₀ r₀ norms r = (r ≤ m) × (length norms ≡ length norms₀) × Filled (λ i. f1) norms₀ r norms

abbrev decreases-loop : tie.decreases-loop-r
decreases-loop m norms₀ r₀ norms r = m - r

loop-holds : tie.Need-loop-r-init invariant-loop decreases-loop
loop-holds c = (omega arith, refl, filled_none)

mul-norms : tie.Need-offset_bounds-norms-r invariant-loop decreases-loop
mul-norms c = omega arith

slice-write-norms : tie.Need-bounds-norms-r invariant-loop decreases-loop
slice-write-norms c = omega arith

add_r : tie.Need-overflow_step-r invariant-loop decreases-loop
add_r c = omega arith

loop-less : tie.Need-loop-r-smaller invariant-loop decreases-loop
loop-less c = omega arith

loop-again : tie.Need-loop-r-preserved invariant-loop decreases-loop
loop-again c =
    let t : tie.In-loop-r invariant-loop decreases-loop = search in
    (omega arith, simp length-set t.loop-r.invariant.1, filled_more t.loop-r.invariant.2 (omega arith) (refl))

same_length : tie.Need-shape_of-norms invariant-loop decreases-loop
same_length c = search rules

returns : tie.Need-returns invariant-loop decreases-loop
returns c =
    let s : tie.Start invariant-loop decreases-loop = search in
    let q : c.loop-r.r ≡ s.args.m = omega arith in
    filled_over (rw q at c.loop-r.invariant.2)

pub write_dual_norms_spec : {M : Type 1} → statement M
write_dual_norms_spec =
    tie.close
    (tie.spec
    invariant-loop
    decreases-loop
    loop-holds
    mul-norms
    slice-write-norms
    add_r
    loop-less
    loop-again
    same_length
    returns)
