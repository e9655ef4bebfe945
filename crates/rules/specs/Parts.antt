-- Records made from lent arrays, for contracts. A function that is lent only some of a record's arrays speaks of the record with the others empty:
-- the definitions read only what they name, so this settles the same answer. Assumes nothing.
use Rattle.std.specs.Prelude.{Bool, false, List, [], ℕ, Float}
use Rattle.doubles.specs.Num.{f0}
use Rattle.rules.specs.Plan.{Plan, Problem, Etas, Workspace, Factored, State, Memory}

abbrev pub plan_of : ℕ → ℕ → ℕ → ℕ → Float → List Float → List Float → List Float → List ℕ → List ℕ → List Float → List ℕ → List Float → Plan
plan_of n m e b t costs lowers uppers starts cols coeffs ops rhs =
    record {
      columns = n;
      rows = m;
      entries = e;
      budget = b;
      tolerance = t;
      costs = costs;
      lowers = lowers;
      uppers = uppers;
      starts = starts;
      cols = cols;
      coeffs = coeffs;
      ops = ops;
      rhs = rhs;
    }

abbrev pub problem : Plan → List ℕ → Problem
problem p kept = record { plan = p; kept = kept }

abbrev pub etas_of : List ℕ → List ℕ → List ℕ → List Float → Etas
etas_of leaving starts rows coeffs = record { leaving = leaving; starts = starts; rows = rows; coeffs = coeffs }

abbrev pub no_etas : Etas
no_etas = etas_of [] [] [] []

abbrev pub workspace_of : List ℕ → List Float → List ℕ → List Float → List Float → List Float → List Float → List ℕ → List ℕ → Etas → Workspace
workspace_of basic_vars basic_var_vals nb_vars nb_var_vals prices norms dual_norms flags places etas =
    record {
      basic_vars = basic_vars;
      basic_var_vals = basic_var_vals;
      nb_vars = nb_vars;
      nb_var_vals = nb_var_vals;
      prices = prices;
      norms = norms;
      dual_norms = dual_norms;
      flags = flags;
      var_states = places;
      etas = etas;
    }

abbrev pub factored_of : Bool → ℕ → List ℕ → List Float → Factored
factored_of b k N D = record { there = b; times = k; numbers = N; coeffs = D }

-- no factor, and no arrays for one
abbrev pub no_factor : Factored
no_factor = factored_of false 0 [] []

abbrev pub state_with : Workspace → ℕ → Float → ℕ → Factored → State
state_with w k o n F = record { ws = w; eta_count = k; objective = o; steps = n; factor = F }

abbrev pub state_of : Workspace → ℕ → Float → ℕ → State
state_of w k o n = state_with w k o n no_factor

abbrev pub memory_of : List Float → List ℕ → Workspace → List ℕ → List Float → List ℕ → List Float → Memory
memory_of values kept w counts objective numbers coeffs =
    record {
      values = values;
      kept = kept;
      ws = w;
      counts = counts;
      objective = objective;
      all_factor_numbers = numbers;
      all_factor_coeffs = coeffs;
    }

-- ---- parts: what the bounds of variables need, and what rows need
abbrev pub bounded : ℕ → List Float → List Float → List ℕ → List ℕ → Problem
bounded n lowers uppers ops kept = problem (plan_of n 0 0 0 f0 [] lowers uppers [] [] [] ops []) kept

abbrev pub rowed : ℕ → List ℕ → List ℕ → List Float → List ℕ → Problem
rowed n starts cols coeffs kept = problem (plan_of n 0 0 0 f0 [] [] [] starts cols coeffs [] []) kept
