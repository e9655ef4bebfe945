-- Costs and objective are what their words say. Assumes nothing.
use mathlib.Core.Path.{◌≡◌, refl, subst}
use mathlib.Core.Bool.{Bool, true, false}
use Prim.Native.Nat.{ℕ, zero, suc, ◌+◌, ◌-◌}
use native.Mathlib.Omega.{arith}
use lib.Dec.{ltb}
use lib.Ieee.{Float}
use borrow.Author.Tests.{ltb-true, ltb-false}
use Rattle.doubles.specs.Num.{◌⊕◌, f0}
use Rattle.doubles.specs.Loop.{run}
use Rattle.doubles.specs.Lists.{◌!◌}
use Rattle.rules.specs.Plan.{Problem, Workspace, n_of, m_of}
use Rattle.reprice_rules.specs.Reprice.{cost_of, basic_turn, objective_of}
use Rattle.reprice_rules.specs.Meaning.{Costs, of_column, of_slack, SumsTo, nothing, and_one, Objective}

-- of every variable, "0.0 for a slack"
pub cost_means : (P : Problem) (v : ℕ) → Costs P v (cost_of P v)
unfolding cost_of
cost_means P v = go (ltb v (n_of P)) refl
  where
    go : (b : Bool) → ltb v (n_of P) ≡ b → Costs P v (elim b [ true ↦ P.plan.costs ! v | false ↦ f0 ])
    go true q = of_column v (ltb-true v (n_of P) q)
    go false q =
        let e : n_of P + (v - n_of P) ≡ v = omega (arith, ltb-false v (n_of P) q) in
        subst (λ (k : ℕ). Costs P k f0) e (of_slack (v - n_of P))

sums : (f : ℕ → Float) (x : Float) (k : ℕ) → SumsTo f x k (run (λ i t. t ⊕ f i) k x)
unfolding run
sums f x zero = nothing
sums f x (suc k) = and_one (sums f x k)

pub objective_means : (P : Problem) (w : Workspace) → Objective P w (objective_of P w)
unfolding objective_of
objective_means P w =
    record { basics = run (basic_turn P w) (m_of P) f0; by_rows = sums _ f0 (m_of P); by_places = sums _ _ (n_of P) }
