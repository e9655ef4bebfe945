-- `reprice_numbers::prices` meets its contract: after c turns the first c cells are filled. Assumes nothing.
use mathlib.Core.Path.{refl}
use Prim.Native.Nat.{◌-◌, ◌≤◌}
use native.Mathlib.Omega.{arith}
use borrow.Author.Rules.{rules}
use Rattle.doubles.specs.Lists.{◌#◌}
use Rattle.doubles.proofs.Loops.{Filled, filled_none, filled_more, filled_done}
use Rattle.reprice_numbers.specs.Lent.{price_on}
use Rattle.reprice_numbers.proofs.prices.Statement.{statement}
use Rattle.reprice_numbers.proofs.prices.Tie as tie

abbrev invariant-loop : tie.invariant-loop-c
invariant-loop costs n cstarts crows ccoeffs nb-vars y out₀ c₀ out c = (c ≤ n) × Filled (λ k. price_on costs cstarts crows ccoeffs n y (nb-vars # k)) out₀ c out

abbrev decreases-loop : tie.decreases-loop-c
decreases-loop costs n cstarts crows ccoeffs nb-vars y out₀ c₀ out c = n - c

loop-holds : tie.Need-loop-c-init invariant-loop decreases-loop
loop-holds c = (omega arith, filled_none)

mul-v : tie.Need-offset_bounds-nb_vars-c invariant-loop decreases-loop
mul-v c = omega arith

shared-slice-read-v : tie.Need-bounds-nb_vars-c invariant-loop decreases-loop
shared-slice-read-v c = omega arith

cost-of-requires : tie.Need-cost_of-requires invariant-loop decreases-loop
cost-of-requires c κs = search rules

column-sum-requires : tie.Need-column_sum-requires invariant-loop decreases-loop
column-sum-requires c κs =
    let s : tie.Start invariant-loop decreases-loop = search in
    let t : tie.In-loop-c invariant-loop decreases-loop = search in
    (s.requires.1.0, s.requires.1.1.place t.loop-c.c t.loop-c-test.true)

mul-out : tie.Need-offset_bounds-out-c invariant-loop decreases-loop
mul-out c = omega arith

element-write-out : tie.Need-bounds-out-c invariant-loop decreases-loop
element-write-out c = omega arith

add-c : tie.Need-overflow_step-c invariant-loop decreases-loop
add-c c = omega arith

loop-less : tie.Need-loop-c-smaller invariant-loop decreases-loop
loop-less c = omega arith

loop-again : tie.Need-loop-c-preserved invariant-loop decreases-loop
loop-again c =
    let t : tie.In-loop-c invariant-loop decreases-loop = search in
    let a : tie.After-cost_of invariant-loop decreases-loop = search in
    let b : tie.After-column_sum invariant-loop decreases-loop = search in
    let s : tie.Start invariant-loop decreases-loop = search in
    (omega arith, filled_more t.loop-c.invariant.1 (omega (arith, s.requires.0.3, t.loop-c-test.true)) (rw (a.cost_of.ensures, b.column_sum.ensures) refl))

returns : tie.Need-returns invariant-loop decreases-loop
returns c = filled_done _ c.loop-c.invariant.0 c.loop-c-test.false c.loop-c.invariant.1

pub prices_spec : {M : Type 1} → statement M
prices_spec =
    tie.close
    (tie.spec
    invariant-loop
    decreases-loop
    loop-holds
    mul-v
    shared-slice-read-v
    cost-of-requires
    column-sum-requires
    mul-out
    element-write-out
    add-c
    loop-less
    loop-again
    returns)
