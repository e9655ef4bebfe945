-- The start's values of a problem are those of the parts that the functions are lent. Assumes nothing.
use mathlib.Core.Path.{◌≡◌, refl}
use mathlib.Core.List.{List, []}
use Prim.Native.Nat.{ℕ}
use lib.Ieee.{Float}
use Rattle.rules.specs.Plan.{Plan, Problem}
use Rattle.rules.specs.Start.{start_vals, dual_feasible, start_objective, start_slack}
use Rattle.start_values.specs.Lent.{costed, sided}

pub vals_part : (p : Plan) → start_vals p ≡ start_vals (costed p.columns p.costs p.lowers p.uppers)
unfolding start_vals
vals_part p = refl

pub dual_part : (p : Plan) → dual_feasible p ≡ dual_feasible (costed p.columns p.costs p.lowers p.uppers)
unfolding dual_feasible
dual_part p = refl

pub objective_part : (p : Plan) (xs : List Float) → start_objective p xs ≡ start_objective (costed p.columns p.costs [] []) xs
unfolding start_objective
objective_part p xs = refl

pub slack_part : (P : Problem) (xs : List Float) (r : ℕ) → start_slack P xs r ≡ start_slack (sided P.plan.starts P.plan.cols P.plan.coeffs P.plan.rhs P.kept) xs r
unfolding start_slack
slack_part P xs r = refl
