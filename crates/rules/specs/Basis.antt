-- The column solve and the row solve: the factor, then the etas, or the other way round. From minilp 0.2.2, src/solver.rs, BasisSolver, Apache-2.0, changed. Assumes nothing.
use Rattle.std.specs.Prelude.{Bool, true, false, ◌&&◌, List, ◌++◌, ℕ, suc, ◌+◌, ltb, leb, eqb, length, set, take, drop, Float}
use Rattle.doubles.specs.Num.{◌⊖◌, ◌⊗◌, ◌⊘◌, f1}
use Rattle.doubles.specs.Limits.{eta_columns, eta_entries}
use Rattle.doubles.specs.Loop.{run, down, each}
use Rattle.doubles.specs.Lists.{◌!◌, ◌#◌, part}
use Rattle.sparse.specs.Scattered.{Sv, sv_of, blank, touched, put_at, add_at, sub_at, listed, listed_val, dot, take_off, relisted}
use Rattle.lu_factor_rules.specs.Packed.{packed_solve, packed_solve_transp, packed_numbers, packed_coeffs}
use Rattle.lu_factor_rules.specs.Factor.{Factor}
use Rattle.rules.specs.Plan.{Problem, State, Etas, Factored, n_of, m_of, row_cols, row_coeffs, column, var_state_of}
use Rattle.rules.specs.declared.VarState.TheVariants.{Basic, NonBasic}

-- ---- the factor. 01: "The first factor is the identity"; later ones are read out of their arrays, over m rows
abbrev pub factor_by : Bool → (Sv → Sv) → Sv → Sv
factor_by true f s = f s
factor_by false f s = s

unfoldable pub factor_solve : ℕ → Factored → Sv → Sv
factor_solve m F s = factor_by F.there (packed_solve m F.numbers F.coeffs) s

unfoldable pub factor_solve_transp : ℕ → Factored → Sv → Sv
factor_solve_transp m F s = factor_by F.there (packed_solve_transp m F.numbers F.coeffs) s

abbrev pub eta_rows_of : Etas → ℕ → List ℕ
eta_rows_of h k = part (h.starts # k) (h.starts # (k + 1)) h.rows

abbrev pub eta_coeffs_of : Etas → ℕ → List Float
eta_coeffs_of h k = part (h.starts # k) (h.starts # (k + 1)) h.coeffs

-- ---- solve: the value at an eta's leaving row times its column is taken off
unfoldable pub eta_turn : Etas → ℕ → Sv → Sv
eta_turn h k s = take_off (s.vals ! (h.leaving # k)) (eta_rows_of h k) (eta_coeffs_of h k) s

unfoldable pub solve_etas : Etas → ℕ → Sv → Sv
solve_etas h n s = run (eta_turn h) n s

unfoldable pub solve : ℕ → Factored → Etas → ℕ → Sv → Sv
solve m F h n s = solve_etas h n (factor_solve m F s)

-- ---- solve_transp: the etas in reverse, then the factor
unfoldable pub eta_turn_transp : Etas → ℕ → Sv → Sv
eta_turn_transp h k s = sub_at s (h.leaving # k) (dot (eta_rows_of h k) (eta_coeffs_of h k) s.vals)

unfoldable pub solve_etas_transp : Etas → ℕ → Sv → Sv
solve_etas_transp h n s = down (eta_turn_transp h) n s

unfoldable pub solve_transp : ℕ → Factored → Etas → ℕ → Sv → Sv
solve_transp m F h n s = factor_solve_transp m F (solve_etas_transp h n s)

-- the state's own row solve
abbrev pub row_solve : Problem → State → Sv → Sv
row_solve P s y = solve_transp (m_of P) s.factor s.ws.etas s.eta_count y

-- ---- a variable's column on a blank vector, and calc_col_coeffs: the entering variable's, solved
abbrev pub scattered : Problem → ℕ → Sv
scattered P v = each (column P v) (λ e t. put_at t e.at e.val) blank

unfoldable pub column_coeffs : Problem → State → ℕ → Sv
column_coeffs P s v = solve (m_of P) s.factor s.ws.etas s.eta_count (scattered P v)

-- ---- calc_row_coeffs: rows combined at the non_basic places, with the maps before the exchange, in a row's stored
-- order with the slack's 1.0 last
unfoldable pub add_entry : ℕ → List ℕ → ℕ → Float → Sv → Sv
add_entry n var_states v x s = elim (var_state_of n (var_states # v)) [ NonBasic c ↦ add_at s c x | Basic r ↦ s ]

abbrev pub add_turn : ℕ → List ℕ → List ℕ → List Float → Float → ℕ → Sv → Sv
add_turn n var_states cols coeffs y k s = add_entry n var_states (cols # k) (coeffs ! k ⊗ y) s

unfoldable pub add_row : Problem → List ℕ → ℕ → Float → Sv → Sv
add_row P var_states r y s =
    let cols = row_cols P.plan (P.kept # r) in
    add_entry (n_of P) var_states (n_of P + r) (f1 ⊗ y) (run (add_turn (n_of P) var_states cols (row_coeffs P.plan (P.kept # r)) y) (length cols) s)

unfoldable pub combine : Problem → List ℕ → Sv → Sv
combine P var_states y = run (λ k s. add_row P var_states (listed y k) (listed_val y k) s) y.pat.count blank

-- inv_basis_row_coeffs: the row solve's result, and the row
abbrev pub inv_row : Problem → State → ℕ → Sv
inv_row P s r = row_solve P s (put_at blank r f1)

unfoldable pub row_coeffs_of : Problem → State → ℕ → Sv
row_coeffs_of P s r = combine P s.ws.var_states (inv_row P s r)

-- 02, Ask 8: tau, the solve of the row solve's result "in its listed order"
unfoldable pub tau_of : Problem → State → Sv → Sv
tau_of P s y = solve (m_of P) s.factor s.ws.etas s.eta_count (relisted y)

-- sq_norms_update_helper. "An untouched place of sq_norms_update_helper counts as 0.0"
unfoldable pub helper_of : Problem → State → Sv → Sv
helper_of P s c = combine P s.ws.var_states (row_solve P s (relisted c))

-- 02, Ask 5, the two touches: place i is listed; one that wasn't holds 0.0
unfoldable pub touch_at : Sv → ℕ → Sv
touch_at s i = sv_of s.vals (touched s.pat i)

-- ---- push_eta_matrix. "Eta entry (ours): 1 - 1/pivot at the leaving row, else coefficient/pivot, in the column's listed order"
unfoldable pub eta_entry : ℕ → Float → ℕ → Float → Float
eta_entry row pivot r x = elim (eqb r row) [ true ↦ f1 ⊖ f1 ⊘ pivot | false ↦ x ⊘ pivot ]

abbrev pub eta_entry_at : Sv → ℕ → Float → ℕ → Float
eta_entry_at c row pivot k = eta_entry row pivot (listed c k) (listed_val c k)

-- how many entries are in use
abbrev pub eta_used : State → ℕ
eta_used s = s.ws.etas.starts # s.eta_count

-- a column of k entries fits the room left
unfoldable pub eta_fits : State → ℕ → Bool
eta_fits s k = ltb s.eta_count eta_columns && leb (eta_used s + k) eta_entries

-- "The new column goes into the unused tail of the store"
pub record Tail : Type 0 where
  pub rows : List ℕ
  pub coeffs : List Float

abbrev pub tail : List ℕ → List Float → Tail
tail r c = record { rows = r; coeffs = c }

abbrev pub write_turn : Sv → ℕ → Float → ℕ → Tail → Tail
write_turn c row pivot k t = tail (set t.rows k (listed c k)) (set t.coeffs k (eta_entry_at c row pivot k))

unfoldable pub write_column : Sv → ℕ → Float → Tail → Tail
write_column c row pivot t = run (write_turn c row pivot) c.pat.count t

unfoldable pub push_eta : Sv → ℕ → Float → ℕ → Etas → Etas
push_eta c row pivot n h =
    let used = h.starts # n in
    let t = write_column c row pivot (tail (drop used h.rows) (drop used h.coeffs)) in
    record {
      leaving = set h.leaving n row;
      starts = set h.starts (n + 1) (used + c.pat.count);
      rows = take used h.rows ++ t.rows;
      coeffs = take used h.coeffs ++ t.coeffs;
    }

-- ---- 02, Ask 5: the basis after an exchange. "Column i is that of basic variable i"
abbrev pub basis_after : Problem → State → ℕ → ℕ → ℕ → Sv
basis_after P s col row i = scattered P (set s.ws.basic_vars row (s.ws.nb_vars # col) # i)

-- "etas empty, count 0, first start 0"
abbrev pub no_columns : Etas → Etas
no_columns h = record { leaving = h.leaving; starts = set h.starts 0 0; rows = h.rows; coeffs = h.coeffs }

-- the factor in its arrays, counted
abbrev pub factored_anew : Factor → Factored → Factored
factored_anew f F =
    record {
      there = true;
      times = suc F.times;
      numbers = packed_numbers f F.numbers;
      coeffs = packed_coeffs f F.coeffs;
    }
