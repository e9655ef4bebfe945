-- 01, "When the gateway says no": the tests behind refusals 1 to 5. A test passes where the number is not given. Assumes nothing.
use Rattle.std.specs.Prelude.{Bool, not, ◌&&◌, ◌||◌, List, ℕ, zero, suc, ◌+◌, ◌-◌, ltb, leb, eqb, length, Float}
use Rattle.std.specs.Float.Ieee.{lt, le, eq}
use Rattle.doubles.specs.Num.{f0, f1, max_number, +inf, -inf, size}
use Rattle.doubles.specs.Limits.{max_columns, max_rows, max_entries, max_budget, eta_columns, eta_entries, count_cells}
use Rattle.doubles.specs.Loop.{all, first}
use Rattle.doubles.specs.Lists.{◌!◌, ◌#◌}
use Rattle.lu_factor_rules.specs.Packed.{all_factor_numbers, all_factor_coeffs}
use Rattle.rules.specs.Plan.{Plan, Memory, Workspace, Etas, row_cols, is_empty}

-- ---- 1: "a size or the budget passes its limit"
unfoldable pub sizes_fit : Plan → Bool
sizes_fit p = leb p.columns max_columns && leb p.rows max_rows && leb p.entries max_entries && leb p.budget max_budget

-- "a lent array is too short"
unfoldable pub plan_long : Plan → Bool
plan_long p =
    leb p.columns (length p.costs)
    && leb p.columns (length p.lowers)
    && leb p.columns (length p.uppers)
    && leb (p.rows + 1) (length p.starts)
    && leb p.entries (length p.cols)
    && leb p.entries (length p.coeffs)
    && leb p.rows (length p.ops)
    && leb p.rows (length p.rhs)

-- "and the full stated store"
unfoldable pub store_is_long : Etas → Bool
store_is_long h =
    leb eta_columns (length h.leaving)
    && leb (eta_columns + 1) (length h.starts)
    && leb eta_entries (length h.rows)
    && leb eta_entries (length h.coeffs)

unfoldable pub workspace_long : ℕ → ℕ → Workspace → Bool
workspace_long n m w =
    leb m (length w.basic_vars)
    && leb m (length w.basic_var_vals)
    && leb n (length w.nb_vars)
    && leb n (length w.nb_var_vals)
    && leb n (length w.prices)
    && leb n (length w.norms)
    && leb m (length w.dual_norms)
    && leb n (length w.flags)
    && leb (n + m) (length w.var_states)
    && store_is_long w.etas

-- "Needed are columns plus rows of values, dropped rows counted"
unfoldable pub memory_long : Plan → Memory → Bool
memory_long p m =
    leb (p.columns + p.rows) (length m.values)
    && leb p.rows (length m.kept)
    && workspace_long p.columns p.rows m.ws
    && leb count_cells (length m.counts)
    && leb 1 (length m.objective)
    && leb all_factor_numbers (length m.all_factor_numbers)
    && leb all_factor_coeffs (length m.all_factor_coeffs)

-- "the row starts don't begin at 0, fall, or don't end at the entry count"
unfoldable pub starts_rise : Plan → Bool
starts_rise p = eqb (p.starts # 0) 0 && all p.rows (λ r. leb (p.starts # r) (p.starts # (r + 1))) && eqb (p.starts # p.rows) p.entries

unfoldable pub passes1 : Plan → Memory → Bool
passes1 p m = sizes_fit p && plan_long p && memory_long p m && starts_rise p

-- ---- 2: "NaN anywhere in the plan; an infinite cost, coefficient or right side; lower bound +inf, upper -inf"; 02:
-- "every finite cost, coefficient, right side or bound whose size is above 1e12". One comparison for all: it is false of
-- a NaN and of an infinity too.
abbrev pub is_number : Float → Bool
is_number x = le (size x) max_number

-- 02: "Infinite bounds stay allowed"
abbrev pub is_lower : Float → Bool
is_lower x = eq x -inf || is_number x

abbrev pub is_upper : Float → Bool
is_upper x = eq x +inf || is_number x

-- "tolerance outside 0 to 1; a comparison above 2"
abbrev pub is_tolerance : Float → Bool
is_tolerance x = le f0 x && le x f1

abbrev pub is_op : ℕ → Bool
is_op o = leb o 2

unfoldable pub passes2 : Plan → Bool
passes2 p =
    all p.columns (λ j. is_number (p.costs ! j))
    && all p.columns (λ j. is_lower (p.lowers ! j))
    && all p.columns (λ j. is_upper (p.uppers ! j))
    && all p.entries (λ k. is_number (p.coeffs ! k))
    && all p.rows (λ i. is_op (p.ops # i))
    && all p.rows (λ i. is_number (p.rhs ! i))
    && is_tolerance p.tolerance

-- ---- 3: "a column number is too large or doesn't rise": place k of row i, counted within the row
unfoldable pub bad_at : ℕ → List ℕ → ℕ → Bool
bad_at n cols k = leb n (cols # k) || (ltb 0 k && leb (cols # k) (cols # (k - 1)))

abbrev pub first_bad_in : Plan → ℕ → ℕ
first_bad_in p i = first (length (row_cols p i)) (bad_at p.columns (row_cols p i))

abbrev pub has_bad : Plan → ℕ → Bool
has_bad p i = ltb (first_bad_in p i) (length (row_cols p i))

-- "the first bad entry, row by row, is the one named"
unfoldable pub first_bad_row : Plan → ℕ
first_bad_row p = first p.rows (has_bad p)

-- ---- 4: "lower > upper, with the first such column"
abbrev pub crossed : Plan → ℕ → Bool
crossed p j = lt (p.uppers ! j) (p.lowers ! j)

unfoldable pub first_crossed : Plan → ℕ
first_crossed p = first p.columns (crossed p)

-- ---- 5: "an empty row whose 0 op rhs is false, with the first such row"
unfoldable pub zero_holds : ℕ → Float → Bool
zero_holds zero b = le f0 b
zero_holds (suc zero) b = eq f0 b
zero_holds (suc (suc k)) b = le b f0

abbrev pub false_row : Plan → ℕ → Bool
false_row p i = is_empty p i && not (zero_holds (p.ops # i) (p.rhs ! i))

unfoldable pub first_false : Plan → ℕ
first_false p = first p.rows (false_row p)
