-- `basis_etas::solve_etas` meets its contract: after k turns the vector is the definition's after k turns, and so in order. Assumes nothing.
use mathlib.Core.Path.{◌≡◌, refl, sym, subst}
use Prim.Native.Nat.{◌-◌, ◌≤◌}
use native.Mathlib.Omega.{arith}
use Rattle.doubles.specs.Limits.{places}
use Rattle.doubles.specs.Loop.{run}
use Rattle.doubles.proofs.Loops.{next, done}
use Rattle.sparse.specs.Scattered.{sv, Good}
use Rattle.rules.specs.Parts.{etas_of}
use Rattle.rules.specs.Basis.{eta_turn, solve_etas}
use Rattle.basis_etas.proofs.Laws.{good_etas}
use Rattle.basis_etas.proofs.solve_etas.Statement.{statement}
use Rattle.basis_etas.proofs.solve_etas.Tie as tie

abbrev invariant-loop : tie.invariant-loop-k
invariant-loop values₀ marks₀ list₀ count leaving starts rows coeffs n c₀ k₀ values marks list c k =
    (k ≤ n) × (sv values marks list c ≡ run (eta_turn (etas_of leaving starts rows coeffs)) k (sv values₀ marks₀ list₀ count))

abbrev decreases-loop : tie.decreases-loop-k
decreases-loop values₀ marks₀ list₀ count leaving starts rows coeffs n c₀ k₀ values marks list c k = n - k

abbrev entry : tie.At-loop-k invariant-loop decreases-loop → tie.Start invariant-loop decreases-loop
entry a = search

-- at the loop's head the vector is in order
ok : (a : tie.At-loop-k invariant-loop decreases-loop) → Good places (sv a.loop-k.values a.loop-k.marks a.loop-k.list a.loop-k.c)
ok a = subst (Good _) (sym a.loop-k.invariant.1) (good_etas _ _ (entry a).requires.1 _ (entry a).requires.0 a.loop-k.k a.loop-k.invariant.0)

loop-holds : tie.Need-loop-k-init invariant-loop decreases-loop
unfolding run
loop-holds c = (omega arith, refl)

eta-turn-requires : tie.Need-eta_turn-c-requires invariant-loop decreases-loop
eta-turn-requires c κs =
    let t : tie.In-loop-k invariant-loop decreases-loop = search in
    (ok t.before, (entry t.before).requires.1.column t.loop-k.k t.loop-k-test.true)

add-k : tie.Need-overflow_step-k invariant-loop decreases-loop
add-k c = omega arith

loop-less : tie.Need-loop-k-smaller invariant-loop decreases-loop
loop-less c = omega arith

loop-again : tie.Need-loop-k-preserved invariant-loop decreases-loop
loop-again c =
    let t : tie.In-loop-k invariant-loop decreases-loop = search in
    let d : tie.After-eta_turn-c invariant-loop decreases-loop = search in
    (omega arith, next _ _ t.loop-k.k t.loop-k.invariant.1 d.eta_turn-c.ensures)

returns : tie.Need-returns invariant-loop decreases-loop
unfolding solve_etas
returns c = done _ _ _ _ c.loop-k.invariant.0 c.loop-k-test.false c.loop-k.invariant.1

pub solve_etas_spec : {M : Type 1} → statement M
solve_etas_spec =
    tie.close
    (tie.spec invariant-loop decreases-loop loop-holds eta-turn-requires add-k loop-less loop-again returns)
