-- The start's numbers as they stand in scratch: cells past their front may be any. Assumes nothing.
use Rattle.std.specs.Prelude.{Bool, ◌&&◌, List, [], ℕ, ◌+◌, length, set, Float}
use Rattle.doubles.specs.Num.{finite, f1}
use Rattle.doubles.specs.Loop.{all, table}
use Rattle.doubles.specs.Lists.{◌!◌, ◌#◌, over}
use Rattle.rules.specs.Plan.{Problem, Workspace, n_of, m_of, slack_min, slack_max}
use Rattle.rules.specs.Start.{start_vals, start_objective, start_slack, start_norm, start_flags, in_bounds}
use Rattle.start_values.specs.Lent.{costed}

pub record Numbers : Type 0 where
  pub vals : List Float
  pub slacks : List Float
  pub norms : List Float
  pub objective : Float

abbrev pub numbers : List Float → List Float → List Float → Float → Numbers
numbers vals slacks norms objective = record { vals = vals; slacks = slacks; norms = norms; objective = objective }

-- the start's numbers, over what stood in scratch
unfoldable pub reckoned : Problem → Numbers → Numbers
reckoned P s =
    let xs = start_vals P.plan in
    numbers (over xs s.vals) (over (table (m_of P) (start_slack P xs)) s.slacks) (over (table (n_of P) (start_norm P)) s.norms) (start_objective P.plan xs)

-- 6 of the numbers in scratch
unfoldable pub all_finite : ℕ → ℕ → List Float → List Float → Float → List Float → Bool
all_finite n m xs slacks objective norms =
    all n (λ j. finite (xs ! j)) && all m (λ r. finite (slacks ! r)) && finite objective && all n (λ j. finite (norms ! j))

-- 7 of the slacks in scratch
unfoldable pub slacks_inside : List ℕ → List ℕ → List Float → Bool
slacks_inside ops kept slacks =
    all (length kept) (λ r.
    let op = ops # (kept # r) in
    in_bounds (slack_min op) (slacks ! r) (slack_max op))

-- the first state's workspace from the numbers in scratch: proofs/Start.antt shows that it is startWorkspace's
unfoldable pub written : ℕ → ℕ → List Float → List Float → List Float → List Float → List Float → List Float → Workspace → Workspace
written n m costs lowers uppers xs slacks norms w =
    record {
      basic_vars = over (table m (λ r. n + r)) w.basic_vars;
      basic_var_vals = over (table m (λ r. slacks ! r)) w.basic_var_vals;
      nb_vars = over (table n (λ c. c)) w.nb_vars;
      nb_var_vals = over (table n (λ j. xs ! j)) w.nb_var_vals;
      prices = over (table n (λ j. costs ! j)) w.prices;
      norms = over (table n (λ j. norms ! j)) w.norms;
      dual_norms = over (table m (λ r. f1)) w.dual_norms;
      flags = over (table n (start_flags (costed n [] lowers uppers) xs)) w.flags;
      var_states = over (table (n + m) (λ v. v)) w.var_states;
      etas = record { leaving = w.etas.leaving; starts = set w.etas.starts 0 0; rows = w.etas.rows; coeffs = w.etas.coeffs };
    }
