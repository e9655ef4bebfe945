-- What holds of the plan once 1 to 3 have passed, and of the state at the start and after every step. Arrays may be longer than needed. Assumes nothing.
-- One record for each index, so that arithmetic can read it.
use Rattle.std.specs.Prelude.{◌≡◌, Bool, true, false, List, ℕ, ◌+◌, ◌-◌, ◌<◌, ◌≤◌, length, get_or, drop}
use Rattle.doubles.specs.Num.{finite}
use Rattle.doubles.specs.Limits.{max_columns, max_rows, max_entries, max_budget, eta_columns, eta_entries, count_cells, places}
use Rattle.doubles.specs.Lists.{◌!◌, ◌#◌}
use Rattle.sparse.specs.Scattered.{Sv, Good, Below}
use Rattle.lu_factor_rules.specs.Packed.{all_factor_numbers, all_factor_coeffs, order_in, number_in, lower_in, upper_in, lower_t_in, upper_t_in, diag_in}
use Rattle.lu_apply.specs.Ask.{Solid}
use Rattle.rules.specs.Plan.{Plan, Problem, Memory, Workspace, Etas, Factored, State, n_of, m_of, row_cols}
use Rattle.rules.specs.Basis.{eta_used}

-- ---- the plan

-- row i: its entries stand within the plan's, their column numbers are columns of the plan and rise, and its comparison is one
pub record RowFits (p : Plan) (i : ℕ) : Type 0 where
  pub rises : p.starts # i ≤ p.starts # (i + 1)
  pub ends : p.starts # (i + 1) ≤ p.entries
  pub op : p.ops # i ≤ 2
  pub long : length (row_cols p i) ≡ p.starts # (i + 1) - p.starts # i
  pub col : (k : ℕ) → k < length (row_cols p i) → row_cols p i # k < p.columns
  pub col_rises : (k : ℕ) → k + 1 < length (row_cols p i) → row_cols p i # k < row_cols p i # (k + 1)

-- what passing 1 to 3 gives
pub record PlanFits (p : Plan) : Type 0 where
  pub columns_most : p.columns ≤ max_columns
  pub rows_most : p.rows ≤ max_rows
  pub entries_most : p.entries ≤ max_entries
  pub budget_most : p.budget ≤ max_budget
  pub costs_long : p.columns ≤ length p.costs
  pub lowers_long : p.columns ≤ length p.lowers
  pub uppers_long : p.columns ≤ length p.uppers
  pub starts_long : p.rows + 1 ≤ length p.starts
  pub cols_long : p.entries ≤ length p.cols
  pub coeffs_long : p.entries ≤ length p.coeffs
  pub ops_long : p.rows ≤ length p.ops
  pub rhs_long : p.rows ≤ length p.rhs
  pub begins : p.starts # 0 ≡ 0
  pub stops : p.starts # p.rows ≡ p.entries
  pub row : (i : ℕ) → i < p.rows → RowFits p i

-- kept row r: a row of the plan that is not empty
pub record KeptFits (P : Problem) (r : ℕ) : Type 0 where
  pub inside : P.kept # r < P.plan.rows
  pub filled : P.plan.starts # (P.kept # r) < P.plan.starts # (P.kept # r + 1)

pub record ProblemFits (P : Problem) : Type 0 where
  pub plan : PlanFits P.plan
  pub few : m_of P ≤ P.plan.rows
  pub kept : (r : ℕ) → r < m_of P → KeptFits P r
  pub kept_rises : (q r : ℕ) → q < r → r < m_of P → P.kept # q < P.kept # r

-- what is lent is long enough, dropped rows counted
pub record MemoryFits (p : Plan) (m : Memory) : Type 0 where
  pub values_long : p.columns + p.rows ≤ length m.values
  pub kept_long : p.rows ≤ length m.kept
  pub counts_long : count_cells ≤ length m.counts
  pub objective_long : 1 ≤ length m.objective
  pub basic_vars_long : p.rows ≤ length m.ws.basic_vars
  pub basic_var_vals_long : p.rows ≤ length m.ws.basic_var_vals
  pub nb_vars_long : p.columns ≤ length m.ws.nb_vars
  pub nb_var_vals_long : p.columns ≤ length m.ws.nb_var_vals
  pub prices_long : p.columns ≤ length m.ws.prices
  pub norms_long : p.columns ≤ length m.ws.norms
  pub dual_norms_long : p.rows ≤ length m.ws.dual_norms
  pub flags_long : p.columns ≤ length m.ws.flags
  pub var_states_long : p.columns + p.rows ≤ length m.ws.var_states
  pub leaving_long : eta_columns ≤ length m.ws.etas.leaving
  pub starts_long : eta_columns + 1 ≤ length m.ws.etas.starts
  pub rows_long : eta_entries ≤ length m.ws.etas.rows
  pub coeffs_long : eta_entries ≤ length m.ws.etas.coeffs
  pub factor_numbers_long : all_factor_numbers ≤ length m.all_factor_numbers
  pub factor_coeffs_long : all_factor_coeffs ≤ length m.all_factor_coeffs

-- ---- the state

-- every array is long enough
pub record Lengths (P : Problem) (w : Workspace) : Type 0 where
  pub basic_vars_long : m_of P ≤ length w.basic_vars
  pub basic_var_vals_long : m_of P ≤ length w.basic_var_vals
  pub nb_vars_long : n_of P ≤ length w.nb_vars
  pub nb_var_vals_long : n_of P ≤ length w.nb_var_vals
  pub prices_long : n_of P ≤ length w.prices
  pub norms_long : n_of P ≤ length w.norms
  pub dual_norms_long : m_of P ≤ length w.dual_norms
  pub flags_long : n_of P ≤ length w.flags
  pub var_states_long : n_of P + m_of P ≤ length w.var_states
  pub leaving_long : eta_columns ≤ length w.etas.leaving
  pub starts_long : eta_columns + 1 ≤ length w.etas.starts
  pub rows_long : eta_entries ≤ length w.etas.rows
  pub coeffs_long : eta_entries ≤ length w.etas.coeffs

-- the variable at place c, and in row r, is one, and its cell leads back there
pub record NonBasicAt (P : Problem) (w : Workspace) (c : ℕ) : Type 0 where
  pub var : w.nb_vars # c < n_of P + m_of P
  pub back : w.var_states # (w.nb_vars # c) ≡ c

pub record BasicAt (P : Problem) (w : Workspace) (r : ℕ) : Type 0 where
  pub var : w.basic_vars # r < n_of P + m_of P
  pub back : w.var_states # (w.basic_vars # r) ≡ n_of P + r

-- the cell of variable v is a place or a row, and leads to v
pub record VarAt (P : Problem) (w : Workspace) (v : ℕ) : Type 0 where
  pub cell : w.var_states # v < n_of P + m_of P
  pub non_basic : w.var_states # v < n_of P → w.nb_vars # (w.var_states # v) ≡ v
  pub basic : n_of P ≤ w.var_states # v → w.basic_vars # (w.var_states # v - n_of P) ≡ v

-- the two maps between variables and places are each other's inverse
pub record Maps (P : Problem) (w : Workspace) : Type 0 where
  pub place : (c : ℕ) → c < n_of P → NonBasicAt P w c
  pub row : (r : ℕ) → r < m_of P → BasicAt P w r
  pub variable : (v : ℕ) → v < n_of P + m_of P → VarAt P w v

-- eta column k: it leaves at a row, its entries follow those before it, and each stands at a row
pub record EtaCol (P : Problem) (h : Etas) (k : ℕ) : Type 0 where
  pub leaves : h.leaving # k < m_of P
  pub rises : h.starts # k ≤ h.starts # (k + 1)
  pub ends : h.starts # (k + 1) ≤ eta_entries
  pub rows : (i : ℕ) → h.starts # k ≤ i → i < h.starts # (k + 1) → h.rows # i < m_of P

-- the store with its first `count` columns in use
pub record Store (P : Problem) (h : Etas) (count : ℕ) : Type 0 where
  pub begins : h.starts # 0 ≡ 0
  pub columns_fit : count ≤ eta_columns
  pub entries_fit : h.starts # count ≤ eta_entries
  pub column : (k : ℕ) → k < count → EtaCol P h k

-- the factor over m rows: its arrays are long enough, and where there is one it can be solved with: its map and that back
-- lead to rows, L's rows stand below and U's above, and their transposes' the other way round
pub record FactorFits (m : ℕ) (F : Factored) : Type 0 where
  pub numbers_long : all_factor_numbers ≤ length F.numbers
  pub coeffs_long : all_factor_coeffs ≤ length F.coeffs
  pub solid : F.there ≡ true
      → Solid m (number_in F.numbers) (lower_in F.numbers F.coeffs) (upper_in F.numbers F.coeffs) (diag_in F.coeffs)
  pub solid_transposed : F.there ≡ true
      → Solid m (order_in F.numbers) (upper_t_in F.numbers F.coeffs) (lower_t_in F.numbers F.coeffs) (diag_in F.coeffs)

-- every number of a factor over m rows is finite: L's, U's and the diagonal's
pub record FactorNumbers (m : ℕ) (F : Factored) : Type 0 where
  pub lower : F.there ≡ true → (k : ℕ) → k < (lower_in F.numbers F.coeffs).starts # m
      → finite ((lower_in F.numbers F.coeffs).vals ! k) ≡ true
  pub upper : F.there ≡ true → (k : ℕ) → k < (upper_in F.numbers F.coeffs).starts # m
      → finite ((upper_in F.numbers F.coeffs).vals ! k) ≡ true
  pub diag : F.there ≡ true → (i : ℕ) → i < m → finite (diag_in F.coeffs ! i) ≡ true

-- every stored number is finite
pub record Numbers (P : Problem) (s : State) : Type 0 where
  pub objective : finite s.objective ≡ true
  pub basic_val : (r : ℕ) → r < m_of P → finite (s.ws.basic_var_vals ! r) ≡ true
  pub nb_val : (c : ℕ) → c < n_of P → finite (s.ws.nb_var_vals ! c) ≡ true
  pub price : (c : ℕ) → c < n_of P → finite (s.ws.prices ! c) ≡ true
  pub norm : (c : ℕ) → c < n_of P → finite (s.ws.norms ! c) ≡ true
  pub dual_norm : (r : ℕ) → r < m_of P → finite (s.ws.dual_norms ! r) ≡ true
  pub eta : (i : ℕ) → i < eta_used s → finite (s.ws.etas.coeffs ! i) ≡ true
  pub factor : FactorNumbers (m_of P) s.factor

-- what the code leans on
pub record Fits (P : Problem) (s : State) : Type 0 where
  pub lengths : Lengths P s.ws
  pub maps : Maps P s.ws
  pub store : Store P s.ws.etas s.eta_count
  pub factor : FactorFits (m_of P) s.factor
  pub factorings : s.factor.times ≤ s.steps

pub record Sound (P : Problem) (s : State) : Type 0 where
  pub fits : Fits P s
  pub numbers : Numbers P s

-- from cell n on, l is k
pub record Past {A : Type 0} (n : ℕ) (l k : List A) : Type 0 where
  pub same : drop n l ≡ drop n k

-- the eta columns and entries that were written: those in use, or any of the store once the basis was factored
abbrev pub written_to : Bool → ℕ → ℕ → ℕ
written_to there whole used = elim there [ true ↦ whole | false ↦ used ]

abbrev pub columns_written : State → ℕ
columns_written s = written_to s.factor.there eta_columns s.eta_count

abbrev pub entries_written : State → ℕ
entries_written s = written_to s.factor.there eta_entries (eta_used s)

-- 01: "cells past what is written never change": those of the state's workspace, and of the factor's arrays, are as they
-- were lent in m
pub record Tails (P : Problem) (m : Memory) (s : State) : Type 0 where
  pub basic_vars_tail : Past (m_of P) s.ws.basic_vars m.ws.basic_vars
  pub basic_var_vals_tail : Past (m_of P) s.ws.basic_var_vals m.ws.basic_var_vals
  pub nb_vars_tail : Past (n_of P) s.ws.nb_vars m.ws.nb_vars
  pub nb_var_vals_tail : Past (n_of P) s.ws.nb_var_vals m.ws.nb_var_vals
  pub prices_tail : Past (n_of P) s.ws.prices m.ws.prices
  pub norms_tail : Past (n_of P) s.ws.norms m.ws.norms
  pub dual_norms_tail : Past (m_of P) s.ws.dual_norms m.ws.dual_norms
  pub flags_tail : Past (n_of P) s.ws.flags m.ws.flags
  pub var_states_tail : Past (n_of P + m_of P) s.ws.var_states m.ws.var_states
  pub leaving_tail : Past (columns_written s) s.ws.etas.leaving m.ws.etas.leaving
  pub starts_tail : Past (columns_written s + 1) s.ws.etas.starts m.ws.etas.starts
  pub rows_tail : Past (entries_written s) s.ws.etas.rows m.ws.etas.rows
  pub coeffs_tail : Past (entries_written s) s.ws.etas.coeffs m.ws.etas.coeffs
  pub numbers_tail : Past all_factor_numbers s.factor.numbers m.all_factor_numbers
  pub factor_coeffs_tail : Past all_factor_coeffs s.factor.coeffs m.all_factor_coeffs

-- ---- the vectors of a step: in order, with places below m alone
pub record Vector (m : ℕ) (c : Sv) : Type 0 where
  pub good : Good places c
  pub places_below : Below m c

-- place i is touched
abbrev pub Touched : Sv → ℕ → Type 0
Touched s i = get_or s.pat.marks i false ≡ true
