-- docs/RULES-02.md, "Beyond: reprice", its parts 1 to 5: the prices and the objective of a kept state worked out anew
-- for the plan's costs. From minilp 0.2.2, src/solver.rs (recalc_obj_coeffs) and src/lu.rs (solve_dense), Apache-2.0,
-- changed: "sums from 0.0", numbers that aren't finite stop it. s is the state that a run left, with 0 steps. Assumes
-- nothing.
use Rattle.std.specs.Prelude.{Bool, true, false, ◌&&◌, List, ℕ, ltb, eqb, replicate, Float}
use Rattle.doubles.specs.Num.{◌⊕◌, ◌⊖◌, ◌⊗◌, f0, finite}
use Rattle.doubles.specs.Limits.{max_rows}
use Rattle.doubles.specs.Loop.{run, all, table, each}
use Rattle.doubles.specs.Lists.{◌!◌, ◌#◌, over}
use Rattle.sparse.specs.Scattered.{Sv}
use Rattle.lu_solve.specs.Solve.{dense}
use Rattle.lu_factor_rules.specs.Factor.{Outcome as Factoring, factored, non_finite, singular, Factor, factorize}
use Rattle.lu_factor_rules.specs.Packed.{number_in, lower_t_in, upper_t_in, diag_in, packed_numbers, packed_coeffs}
use Rattle.lu_factor_rules.specs.Solves.{tri_of}
use Rattle.rules.specs.Plan.{Problem, Workspace, State, Entry, n_of, m_of, column}
use Rattle.rules.specs.Parts.{workspace_of, factored_of, state_with}
use Rattle.rules.specs.Basis.{scattered, no_columns}
use Rattle.rules.specs.Step.{Ended, ended, run_of}
use Rattle.rules.specs.declared.Stop.{Stop}
use Rattle.rules.specs.declared.Stop.TheVariants.{NotFinite, Singular}

-- the cost of a variable, "0.0 for a slack"
unfoldable pub cost_of : Problem → ℕ → Float
cost_of P v = elim (ltb v (n_of P)) [ true ↦ P.plan.costs ! v | false ↦ f0 ]

-- what the own part gives: the state to go on from, or why there is none
pub data Ready : Type 0 where
  ready : State → Ready
  halts : Stop → Ready

-- ---- 1: "Where eta columns are stored, the basis is factored in their place"
abbrev pub basis_now : Problem → State → ℕ → Sv
basis_now P s i = scattered P (s.ws.basic_vars # i)

-- "no eta columns, no entries, first start 0, one factoring more": the one more is added where the call ends, so that
-- here factorings are never above steps
abbrev pub factored_now : State → Factor → State
factored_now s f =
    let w = s.ws in
    let F = s.factor in
    state_with
    (workspace_of w.basic_vars w.basic_var_vals w.nb_vars w.nb_var_vals w.prices w.norms w.dual_norms w.flags w.var_states (no_columns w.etas))
    0 s.objective s.steps (factored_of true F.times (packed_numbers f F.numbers) (packed_coeffs f F.coeffs))

-- "23 and 25 as in Ask 5"
abbrev pub or_halts : Factoring Factor → (Factor → State) → Ready
or_halts (factored f) go = ready (go f)
or_halts non_finite go = halts NotFinite
or_halts singular go = halts Singular

-- "With no eta column the factor, or that there is none, stays"
abbrev pub has_no_etas : State → Bool
has_no_etas s = eqb s.eta_count 0

unfoldable pub settled : Problem → State → Ready
settled P s = elim (has_no_etas s) [ true ↦ ready s | false ↦ or_halts (factorize (m_of P) (basis_now P s)) (factored_now s) ]

-- ---- 2: the multipliers, the first m cells of 96

abbrev pub cells_of : ℕ → (ℕ → Float) → List Float
cells_of m f = over (table m f) (replicate max_rows f0)

-- "y over basis places is the cost of each basic variable"
unfoldable pub basic_costs : Problem → Workspace → List Float
basic_costs P w = cells_of (m_of P) (λ i. cost_of P (w.basic_vars # i))

-- "Dense solves with U's transpose, columns rising, each divided by its number of the diagonal first, and then with L's
-- transpose, columns falling; each column's entries in the stored order of the transposes"
unfoldable pub dense_transp : ℕ → List ℕ → List Float → List Float → List Float
dense_transp m N D y =
    dense (tri_of false m (lower_t_in N D) false (diag_in D)) (dense (tri_of true m (upper_t_in N D) true (diag_in D)) y)

-- "Pivot number j gives the multiplier of the kept row that is pivot row j": that of row r stands at its pivot number
unfoldable pub by_rows : ℕ → List ℕ → List Float → List Float
by_rows m number y = cells_of m (λ r. y ! (number # r))

-- "With no factor y is as it stands, row r having that of its basic variable"
abbrev pub multipliers_by : Bool → ℕ → List ℕ → List Float → List Float → List Float
multipliers_by true m N D y = by_rows m (number_in N) (dense_transp m N D y)
multipliers_by false m N D y = y

unfoldable pub multipliers : Problem → State → List Float
multipliers P s =
    multipliers_by s.factor.there (m_of P) s.factor.numbers s.factor.coeffs (basic_costs P s.ws)

-- ---- 3: "the cost of v, 0.0 for a slack, minus the sum, from 0.0, kept rows rising, of coefficient * multiplier"
abbrev pub price_turn : List Float → Entry → Float → Float
price_turn y e t = t ⊕ e.val ⊗ y ! e.at

unfoldable pub price_of : Problem → List Float → ℕ → Float
price_of P y v = cost_of P v ⊖ each (column P v) (price_turn y) f0

-- ---- 4: "The objective, from 0.0: cost * value of the basic variables by rows, then of the non_basic ones by places"
abbrev pub basic_turn : Problem → Workspace → ℕ → Float → Float
basic_turn P w r t = t ⊕ cost_of P (w.basic_vars # r) ⊗ w.basic_var_vals ! r

abbrev pub place_turn : Problem → Workspace → ℕ → Float → Float
place_turn P w c t = t ⊕ cost_of P (w.nb_vars # c) ⊗ w.nb_var_vals ! c

unfoldable pub objective_of : Problem → Workspace → Float
objective_of P w = run (place_turn P w) (n_of P) (run (basic_turn P w) (m_of P) f0)

-- ---- 5: "Multipliers, prices and objective are finite, else 23"
abbrev pub price_at : Problem → State → List Float → ℕ → Float
price_at P s y c = price_of P y (s.ws.nb_vars # c)

unfoldable pub priced_finite : Problem → State → List Float → Bool
priced_finite P s y =
    all (m_of P) (λ r. finite (y ! r))
    && (all (n_of P) (λ c. finite (price_at P s y c))
    && finite (objective_of P s.ws))

-- "Then prices and objective are stored. Values, flags with their marks, and both kinds of norm stay"
unfoldable pub priced_by : Problem → State → List Float → State
priced_by P s y =
    let w = s.ws in
    state_with
    (workspace_of w.basic_vars w.basic_var_vals w.nb_vars w.nb_var_vals (over (table (n_of P) (price_at P s y)) w.prices) w.norms w.dual_norms w.flags w.var_states w.etas)
    s.eta_count (objective_of P w) s.steps s.factor

abbrev pub priced_if : Bool → Problem → State → List Float → Ready
priced_if true P s y = ready (priced_by P s y)
priced_if false P s y = halts NotFinite

unfoldable pub priced : Problem → State → Ready
priced P s = let y = multipliers P s in priced_if (priced_finite P s y) P s y

-- ---- the own part of the call, from the kept state
abbrev pub then_priced : Problem → Ready → Ready
then_priced P (ready t) = priced P t
then_priced P (halts w) = halts w

unfoldable pub repriced : Problem → State → Ready
repriced P s = then_priced P (settled P s)

-- "Then primal steps until no column enters, with the budget from 0 … On 23 and 25 out of 1 to 5 the state is the one
-- before the call"
abbrev pub goes_on : Problem → State → Ready → Ended
goes_on P s (ready t) = run_of P P.plan.budget t
goes_on P s (halts w) = ended w s

unfoldable pub reprice_end : Problem → State → Ended
reprice_end P s = goes_on P s (repriced P s)

-- its own factorings: one where eta columns were stored, and none where the state is the one before the call
abbrev pub own_factorings : State → Ready → ℕ
own_factorings s (ready t) = elim (has_no_etas s) [ true ↦ 0 | false ↦ 1 ]
own_factorings s (halts w) = 0
