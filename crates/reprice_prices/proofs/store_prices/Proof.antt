-- `reprice_prices::store_prices` meets its contract: after c turns the first c cells are filled. Assumes nothing.
use mathlib.Core.Path.{refl}
use Prim.Native.Nat.{◌-◌, ◌≤◌}
use native.Mathlib.Omega.{arith}
use Rattle.doubles.specs.Lists.{◌!◌}
use Rattle.doubles.proofs.Loops.{Filled, filled_none, filled_more, filled_done, filled_length}
use Rattle.reprice_prices.proofs.store_prices.Statement.{statement}
use Rattle.reprice_prices.proofs.store_prices.Tie as tie

abbrev invariant-loop : tie.invariant-loop-c
invariant-loop n fresh prices₀ c₀ prices c = (c ≤ n) × Filled (λ k. fresh ! k) prices₀ c prices

abbrev decreases-loop : tie.decreases-loop-c
decreases-loop n fresh prices₀ c₀ prices c = n - c

loop-holds : tie.Need-loop-c-init invariant-loop decreases-loop
loop-holds c = (omega arith, filled_none)

mul-prices : tie.Need-offset_bounds-fresh-c invariant-loop decreases-loop
mul-prices c = omega arith

element-copy-out-prices : tie.Need-bounds-fresh-c invariant-loop decreases-loop
element-copy-out-prices c = omega arith

mul-prices-2 : tie.Need-offset_bounds-prices-c invariant-loop decreases-loop
mul-prices-2 c =
    let t : tie.In-loop-c invariant-loop decreases-loop = search in
    omega (arith, filled_length t.loop-c.invariant.1 (omega arith))

slice-write-prices : tie.Need-bounds-prices-c invariant-loop decreases-loop
slice-write-prices c =
    let t : tie.In-loop-c invariant-loop decreases-loop = search in
    omega (arith, filled_length t.loop-c.invariant.1 (omega arith))

add-c : tie.Need-overflow_step-c invariant-loop decreases-loop
add-c c = omega arith

loop-less : tie.Need-loop-c-smaller invariant-loop decreases-loop
loop-less c = omega arith

loop-again : tie.Need-loop-c-preserved invariant-loop decreases-loop
loop-again c =
    let t : tie.In-loop-c invariant-loop decreases-loop = search in
    (omega arith, filled_more t.loop-c.invariant.1 (omega arith) refl)

same_length : tie.Need-shape_of-prices invariant-loop decreases-loop
same_length c = filled_length c.loop-c.invariant.1 (omega arith)

returns : tie.Need-returns invariant-loop decreases-loop
returns c = filled_done _ c.loop-c.invariant.0 c.loop-c-test.false c.loop-c.invariant.1

pub store_prices_spec : {M : Type 1} → statement M
store_prices_spec =
    tie.close
    (tie.spec
    invariant-loop
    decreases-loop
    loop-holds
    mul-prices
    element-copy-out-prices
    mul-prices-2
    slice-write-prices
    add-c
    loop-less
    loop-again
    same_length
    returns)
