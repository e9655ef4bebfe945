-- `reprice_numbers::basic_costs` meets its contract: after i turns the first i cells are filled. Assumes nothing.
use mathlib.Core.List.{[]}
use Prim.Native.Nat.{◌-◌, ◌≤◌}
use native.Mathlib.Omega.{arith}
use borrow.Author.Rules.{rules}
use Rattle.doubles.specs.Lists.{◌#◌}
use Rattle.doubles.proofs.Loops.{Filled, filled_none, filled_more, filled_done}
use Rattle.reprice_rules.specs.Reprice.{cost_of}
use Rattle.reprice_numbers.specs.Lent.{costed}
use Rattle.reprice_numbers.proofs.basic_costs.Statement.{statement}
use Rattle.reprice_numbers.proofs.basic_costs.Tie as tie

abbrev invariant-loop : tie.invariant-loop-i
invariant-loop costs n basic-vars m y₀ i₀ y i = (i ≤ m) × Filled (λ k. cost_of (costed n costs []) (basic-vars # k)) y₀ i y

abbrev decreases-loop : tie.decreases-loop-i
decreases-loop costs n basic-vars m y₀ i₀ y i = m - i

loop-holds : tie.Need-loop-i-init invariant-loop decreases-loop
loop-holds c = (omega arith, filled_none)

mul-cost-of : tie.Need-offset_bounds-basic_vars-i invariant-loop decreases-loop
mul-cost-of c = omega arith

shared-slice-read-cost-of : tie.Need-bounds-basic_vars-i invariant-loop decreases-loop
shared-slice-read-cost-of c = omega arith

cost-of-requires : tie.Need-cost_of-requires invariant-loop decreases-loop
cost-of-requires c κs = search rules

mul-y : tie.Need-offset_bounds-y-i invariant-loop decreases-loop
mul-y c = omega arith

element-write-y : tie.Need-bounds-y-i invariant-loop decreases-loop
element-write-y c = omega arith

add-i : tie.Need-overflow_step-i invariant-loop decreases-loop
add-i c = omega arith

loop-less : tie.Need-loop-i-smaller invariant-loop decreases-loop
loop-less c = omega arith

loop-again : tie.Need-loop-i-preserved invariant-loop decreases-loop
loop-again c =
    let t : tie.In-loop-i invariant-loop decreases-loop = search in
    (omega arith, filled_more t.loop-i.invariant.1 (omega arith) c.cost_of.ensures)

returns : tie.Need-returns invariant-loop decreases-loop
returns c = filled_done _ c.loop-i.invariant.0 c.loop-i-test.false c.loop-i.invariant.1

pub basic_costs_spec : {M : Type 1} → statement M
basic_costs_spec =
    tie.close
    (tie.spec
    invariant-loop
    decreases-loop
    loop-holds
    mul-cost-of
    shared-slice-read-cost-of
    cost-of-requires
    mul-y
    element-write-y
    add-i
    loop-less
    loop-again
    returns)
