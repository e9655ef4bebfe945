-- 01, "Start": try_new with 01's rules, and the tests behind 6 and 7. From minilp 0.2.2, src/solver.rs, Apache-2.0, changed. Assumes nothing.
use Rattle.std.specs.Prelude.{Bool, true, false, ◌&&◌, List, ℕ, ◌+◌, set, Float}
use Rattle.std.specs.Float.Ieee.{lt, le, eq}
use Rattle.doubles.specs.Num.{◌⊕◌, ◌⊖◌, ◌⊗◌, f0, f1, finite, infinite}
use Rattle.doubles.specs.Loop.{run, all, table, each}
use Rattle.doubles.specs.Lists.{◌!◌, ◌#◌, over}
use Rattle.rules.specs.Plan.{Plan, Problem, Workspace, Memory, State, n_of, m_of, row_sum, column, flags_cell, slack_min, slack_max}
use Rattle.rules.specs.Parts.{factored_of}

-- "Fixed: that value. Free: 0.0. Positive cost: lower if finite, else upper. Negative: upper if finite, else lower. Zero cost: lower if finite, else upper."
abbrev pub lower_first : Float → Float → Float
lower_first lo hi = elim (finite lo) [ true ↦ lo | false ↦ hi ]

abbrev pub upper_first : Float → Float → Float
upper_first lo hi = elim (finite hi) [ true ↦ hi | false ↦ lo ]

unfoldable pub start_val : Float → Float → Float → Float
start_val c lo hi =
    elim (eq lo hi) [
      | true ↦ lo
      | false ↦ elim (infinite lo && infinite hi) [
        | true ↦ f0
        | false ↦ elim (lt c f0) [ true ↦ upper_first lo hi | false ↦ lower_first lo hi ]
      ]
    ]

-- whether the price has the right sign there: the flag is_dual_feasible of try_new
unfoldable pub start_dual : Float → Float → Float → Bool
start_dual c lo hi =
    elim (eq lo hi) [
      | true ↦ true
      | false ↦ elim (infinite lo && infinite hi) [
        | true ↦ eq c f0
        | false ↦ elim (lt f0 c) [ true ↦ finite lo | false ↦ elim (lt c f0) [ true ↦ finite hi | false ↦ true ] ]
      ]
    ]

abbrev pub start_val_at : Plan → ℕ → Float
start_val_at p j = start_val (p.costs ! j) (p.lowers ! j) (p.uppers ! j)

unfoldable pub start_vals : Plan → List Float
start_vals p = table p.columns (start_val_at p)

unfoldable pub dual_feasible : Plan → Bool
dual_feasible p = all p.columns (λ j. start_dual (p.costs ! j) (p.lowers ! j) (p.uppers ! j))

-- "Sums start at 0.0 and follow entry or listed order"
abbrev pub objective_turn : Plan → List Float → ℕ → Float → Float
objective_turn p xs j t = t ⊕ xs ! j ⊗ p.costs ! j

unfoldable pub start_objective : Plan → List Float → Float
start_objective p xs = run (objective_turn p xs) p.columns f0

-- the value of kept row r's slack
unfoldable pub start_slack : Problem → List Float → ℕ → Float
start_slack P xs r = P.plan.rhs ! (P.kept # r) ⊖ row_sum P.plan (P.kept # r) xs

-- "A norm, reckoned for every plan, is 1.0 added to the column's sum of squares"
unfoldable pub start_norm : Problem → ℕ → Float
start_norm P j = each (column P j) (λ e t. t ⊕ e.val ⊗ e.val) f0 ⊕ f1

abbrev pub start_flags : Plan → List Float → ℕ → ℕ
start_flags p xs j = flags_cell (record { at_min = eq (xs ! j) (p.lowers ! j); at_max = eq (xs ! j) (p.uppers ! j); «fixed» = false })

-- What the first state holds, over what was lent. Columns are non_basic in their order, and slacks basic in theirs, so the cell of variable v is v.
unfoldable pub start_workspace : Problem → List Float → Workspace → Workspace
start_workspace P xs w =
    let n = n_of P in
    let m = m_of P in
    record {
      basic_vars = over (table m (λ r. n + r)) w.basic_vars;
      basic_var_vals = over (table m (start_slack P xs)) w.basic_var_vals;
      nb_vars = over (table n (λ c. c)) w.nb_vars;
      nb_var_vals = over (table n (λ j. xs ! j)) w.nb_var_vals;
      prices = over (table n (λ j. P.plan.costs ! j)) w.prices;
      norms = over (table n (start_norm P)) w.norms;
      dual_norms = over (table m (λ r. f1)) w.dual_norms;
      flags = over (table n (start_flags P.plan xs)) w.flags;
      var_states = over (table (n + m) (λ v. v)) w.var_states;
      etas = record { leaving = w.etas.leaving; starts = set w.etas.starts 0 0; rows = w.etas.rows; coeffs = w.etas.coeffs };
    }

-- 02: "none yet (the identity)": no factor at the start, and its arrays as they are lent
unfoldable pub start_state : Problem → Memory → State
start_state P m =
    let xs = start_vals P.plan in
    record {
      ws = start_workspace P xs m.ws;
      eta_count = 0;
      objective = start_objective P.plan xs;
      steps = 0;
      factor = factored_of false 0 m.all_factor_numbers m.all_factor_coeffs;
    }

-- ---- 6: "a start value, objective sum or start norm isn't finite"
unfoldable pub passes6 : Problem → Bool
passes6 P =
    let xs = start_vals P.plan in
    all (n_of P) (λ j. finite (xs ! j))
    && all (m_of P) (λ r. finite (start_slack P xs r))
    && finite (start_objective P.plan xs)
    && all (n_of P) (λ j. finite (start_norm P j))

-- ---- 7: "a slack starts outside its bounds, no tolerance". 02, Ask 8: the refusal is given only where the start isn't dual
-- feasible either
abbrev pub in_bounds : Float → Float → Float → Bool
in_bounds lo x hi = le lo x && le x hi

unfoldable pub passes7 : Problem → Bool
passes7 P =
    let xs = start_vals P.plan in
    all (m_of P) (λ r.
    let op = P.plan.ops # (P.kept # r) in
    in_bounds (slack_min op) (start_slack P xs r) (slack_max op))
