-- `reprice_numbers::add_costs` meets its contract: after i turns the sum is the definition's after i turns. Assumes
-- nothing.
use mathlib.Core.Path.{◌≡◌, refl}
use Prim.Native.Nat.{◌-◌, ◌≤◌}
use native.Mathlib.Omega.{arith}
use borrow.Author.Rules.{rules}
use Rattle.doubles.specs.Loop.{run}
use Rattle.doubles.proofs.Loops.{next, done}
use Rattle.reprice_numbers.specs.Lent.{add_turn}
use Rattle.reprice_numbers.proofs.add_costs.Statement.{statement}
use Rattle.reprice_numbers.proofs.add_costs.Tie as tie

abbrev invariant-loop : tie.invariant-loop-i
invariant-loop start costs n vars vals k sum₀ i₀ sum i = (i ≤ k) × (sum ≡ run (add_turn n costs vars vals) i start)

abbrev decreases-loop : tie.decreases-loop-i
decreases-loop start costs n vars vals k sum₀ i₀ sum i = k - i

loop-holds : tie.Need-loop-i-init invariant-loop decreases-loop
unfolding run
loop-holds c = (omega arith, refl)

mul-cost-of : tie.Need-offset_bounds-vars-i invariant-loop decreases-loop
mul-cost-of c = omega arith

shared-slice-read-cost-of : tie.Need-bounds-vars-i invariant-loop decreases-loop
shared-slice-read-cost-of c = omega arith

cost-of-requires : tie.Need-cost_of-requires invariant-loop decreases-loop
cost-of-requires c κs = search rules

mul-sum : tie.Need-offset_bounds-vals-i invariant-loop decreases-loop
mul-sum c = omega arith

shared-slice-read-sum : tie.Need-bounds-vals-i invariant-loop decreases-loop
shared-slice-read-sum c = omega arith

add-i : tie.Need-overflow_step-i invariant-loop decreases-loop
add-i c = omega arith

loop-less : tie.Need-loop-i-smaller invariant-loop decreases-loop
loop-less c = omega arith

loop-again : tie.Need-loop-i-preserved invariant-loop decreases-loop
loop-again c =
    let t : tie.In-loop-i invariant-loop decreases-loop = search in
    let a : tie.After-cost_of invariant-loop decreases-loop = search in
    (omega arith, next _ _ t.loop-i.i t.loop-i.invariant.1 (rw a.cost_of.ensures refl))

returns : tie.Need-returns invariant-loop decreases-loop
returns c = done _ _ _ _ c.loop-i.invariant.0 c.loop-i-test.false c.loop-i.invariant.1

pub add_costs_spec : {M : Type 1} → statement M
add_costs_spec =
    tie.close
    (tie.spec
    invariant-loop
    decreases-loop
    loop-holds
    mul-cost-of
    shared-slice-read-cost-of
    cost-of-requires
    mul-sum
    shared-slice-read-sum
    add-i
    loop-less
    loop-again
    returns)
