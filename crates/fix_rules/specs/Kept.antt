-- The state that a run left in the memory, and the test behind 41. 02: "41 the last run wasn't Optimal or the workspace's maps,
-- lists or store break 01's limits". docs/RULES-02.md, Ask 9, has the parts in this order. Assumes nothing.
use Rattle.std.specs.Prelude.{Bool, true, false, not, ◌&&◌, ◌||◌, List, ℕ, ltb, leb, eqb, length, Float}
use Rattle.std.specs.Float.Ieee.{lt}
use Rattle.doubles.specs.Num.{eps, finite, size}
use Rattle.doubles.specs.Limits.{eta_columns, eta_entries, max_tri_entries}
use Rattle.doubles.specs.Loop.{all}
use Rattle.doubles.specs.Lists.{◌!◌, ◌#◌}
use Rattle.lu_walk.specs.Walk.{shape}
use Rattle.lu_gate.specs.Gate.{ok_starts, ok_rows, finite_at}
use Rattle.lu_factor_rules.specs.Factor.{Factor, Matrix}
use Rattle.lu_factor_rules.specs.Packed.{order_in, number_in, lower_in, upper_in, diag_in, packed_numbers, packed_coeffs}
use Rattle.rules.specs.Plan.{Plan, Problem, Memory, Workspace, Etas, Factored, State, problem_of, n_of, m_of}
use Rattle.rules.specs.Parts.{factored_of, state_with}
use Rattle.state_maps.specs.Maps.{leads_back, maps_fine}

-- ---- what the counts say: kept rows, eta columns, eta entries, steps, status, whether there is a factor, factorings
abbrev pub etas_kept : Memory → ℕ
etas_kept m = m.counts # 1

abbrev pub entries_kept : Memory → ℕ
entries_kept m = m.counts # 2

abbrev pub status_kept : Memory → ℕ
status_kept m = m.counts # 4

abbrev pub factor_cell : Memory → ℕ
factor_cell m = m.counts # 5

abbrev pub has_factor : Memory → Bool
has_factor m = eqb (factor_cell m) 1

-- ---- the state

-- the factor over m rows as its two arrays have it
abbrev pub factor_in : ℕ → List ℕ → List Float → Factor
factor_in m N D = record { size = m; order = order_in N; number = number_in N; lower = lower_in N D; upper = upper_in N D; diag = diag_in D }

-- "Transposes aren't looked at: a call makes them anew from L and U". The call counts its own factorings, from 0 like its
-- steps: those before it are added where it ends
abbrev pub kept_by : Bool → ℕ → List ℕ → List Float → Factored
kept_by true rows N D = factored_of true 0 (packed_numbers (factor_in rows N D) N) (packed_coeffs (factor_in rows N D) D)
kept_by false rows N D = factored_of false 0 N D

unfoldable pub kept_factor : ℕ → Memory → Factored
kept_factor rows m = kept_by (has_factor m) rows m.all_factor_numbers m.all_factor_coeffs

-- "Steps are counted from 0 in each call"
unfoldable pub kept_state : Problem → Memory → State
kept_state P m = state_with m.ws (etas_kept m) (m.objective ! 0) 0 (kept_factor (m_of P) m)

-- ---- 41, part by part; each passes where it gives no 41

-- "a flags cell is neither 0 to 3 nor 7"
abbrev pub known_flags : ℕ → Bool
known_flags x = leb x 3 || eqb x 7

unfoldable pub flags_fine : ℕ → List ℕ → Bool
flags_fine n l = all n (λ c. known_flags (l # c))

-- "the store breaks its limits (count above 256, starts that don't begin at 0, fall or don't end at the entry cell, above
-- 4,096, a leaving row or row number not below the kept rows)"
unfoldable pub store_fine : ℕ → Etas → ℕ → ℕ → Bool
store_fine rows h count entries =
    leb count eta_columns
    && (ok_starts count entries h.starts
    && (leb entries eta_entries
    && (all count (λ k. ltb (h.leaving # k) rows)
    && all entries (λ i. ltb (h.rows # i) rows))))

-- "the factor does (not a permutation with its inverse, starts, rows not below / not above, a diagonal of size under EPS)"
unfoldable pub order_fine : ℕ → List ℕ → List ℕ → Bool
order_fine rows order number = all rows (λ k. leads_back rows number k (order # k)) && all rows (λ r. ltb (number # r) rows)

unfoldable pub triangle_fine : Bool → ℕ → Matrix → Bool
triangle_fine lower rows t =
    ok_starts rows (t.starts # rows) t.starts
    && (leb (t.starts # rows) max_tri_entries
    && ok_rows (shape lower rows t.starts t.rows))

unfoldable pub diagonal_fine : ℕ → List Float → Bool
diagonal_fine rows d = all rows (λ i. not (lt (size (d ! i)) eps))

unfoldable pub factor_fine : ℕ → List ℕ → List Float → Bool
factor_fine rows N D =
    order_fine rows (order_in N) (number_in N)
    && (triangle_fine true rows (lower_in N D)
    && (triangle_fine false rows (upper_in N D)
    && diagonal_fine rows (diag_in D)))

-- "a stored number in use (values, prices, both norms, eta and factor numbers, objective) isn't finite"
unfoldable pub workspace_finite : ℕ → ℕ → ℕ → Workspace → Bool
workspace_finite n rows entries w =
    all rows (finite_at w.basic_var_vals)
    && (all n (finite_at w.nb_var_vals)
    && (all n (finite_at w.prices)
    && (all n (finite_at w.norms)
    && (all rows (finite_at w.dual_norms)
    && all entries (finite_at w.etas.coeffs)))))

unfoldable pub factor_finite : ℕ → List ℕ → List Float → Bool
factor_finite rows N D =
    all ((lower_in N D).starts # rows) (finite_at (lower_in N D).vals)
    && (all ((upper_in N D).starts # rows) (finite_at (upper_in N D).vals)
    && all rows (finite_at (diag_in D)))

-- the parts about a factor are asked where there is one
abbrev pub of_factor : Memory → Bool → Bool
of_factor m b = not (has_factor m) || b

-- "cell 5 of counts is above 1 (cells 3 and 6 are free)"
unfoldable pub passes41 : Plan → Memory → Bool
passes41 p m =
    let P = problem_of p in
    let N = m.all_factor_numbers in
    let D = m.all_factor_coeffs in
    eqb (status_kept m) 0
    && (maps_fine p m
    && (flags_fine (n_of P) m.ws.flags
    && (store_fine (m_of P) m.ws.etas (etas_kept m) (entries_kept m)
    && (of_factor m (factor_fine (m_of P) N D)
    && (leb (factor_cell m) 1
    && (workspace_finite (n_of P) (m_of P) (entries_kept m) m.ws
    && (of_factor m (factor_finite (m_of P) N D)
    && finite (m.objective ! 0))))))))
