-- `reprice_numbers::by_rows` meets its contract: after r turns the first r cells are filled. Assumes nothing.
use mathlib.Core.Path.{refl}
use Prim.Native.Nat.{◌-◌, ◌<◌, ◌≤◌}
use native.Mathlib.Omega.{arith}
use Rattle.doubles.specs.Limits.{max_rows}
use Rattle.doubles.specs.Lists.{◌!◌, ◌#◌}
use Rattle.doubles.proofs.Loops.{Filled, filled_none, filled_more, filled_done}
use Rattle.reprice_numbers.proofs.by_rows.Statement.{statement}
use Rattle.reprice_numbers.proofs.by_rows.Tie as tie

abbrev invariant-loop : tie.invariant-loop-r
invariant-loop m number y out₀ r₀ out r = (r ≤ m) × Filled (λ k. y ! (number # k)) out₀ r out

abbrev decreases-loop : tie.decreases-loop-r
decreases-loop m number y out₀ r₀ out r = m - r

-- in a turn the pivot number is within the values
place : (t : tie.In-loop-r invariant-loop decreases-loop) → t.args.number.now # t.loop-r.r < max_rows
place t = t.requires.3.inside t.loop-r.r t.loop-r-test.true

loop-holds : tie.Need-loop-r-init invariant-loop decreases-loop
loop-holds c = (omega arith, filled_none)

mul-j : tie.Need-offset_bounds-number-r invariant-loop decreases-loop
mul-j c = omega arith

shared-slice-read-j : tie.Need-bounds-number-r invariant-loop decreases-loop
shared-slice-read-j c = omega arith

mul-out : tie.Need-offset_bounds-y-j invariant-loop decreases-loop
mul-out c = let t : tie.In-loop-r invariant-loop decreases-loop = search in omega (arith, place t)

element-copy-out-out : tie.Need-bounds-y-j invariant-loop decreases-loop
element-copy-out-out c = let t : tie.In-loop-r invariant-loop decreases-loop = search in omega (arith, place t)

mul-out-2 : tie.Need-offset_bounds-out-r invariant-loop decreases-loop
mul-out-2 c = omega arith

element-write-out : tie.Need-bounds-out-r invariant-loop decreases-loop
element-write-out c = omega arith

add_r : tie.Need-overflow_step-r invariant-loop decreases-loop
add_r c = omega arith

loop-less : tie.Need-loop-r-smaller invariant-loop decreases-loop
loop-less c = omega arith

loop-again : tie.Need-loop-r-preserved invariant-loop decreases-loop
loop-again c =
    let t : tie.In-loop-r invariant-loop decreases-loop = search in
    (omega arith, filled_more t.loop-r.invariant.1 (omega arith) refl)

returns : tie.Need-returns invariant-loop decreases-loop
returns c = filled_done _ c.loop-r.invariant.0 c.loop-r-test.false c.loop-r.invariant.1

pub by_rows_spec : {M : Type 1} → statement M
by_rows_spec =
    tie.close
    (tie.spec
    invariant-loop
    decreases-loop
    loop-holds
    mul-j
    shared-slice-read-j
    mul-out
    element-copy-out-out
    mul-out-2
    element-write-out
    add_r
    loop-less
    loop-again
    returns)
