-- A factor in two lent lists: each of its arrays, and of its transposes', is a part at a fixed place. src/lib.rt has the
-- same names for the code. Assumes nothing.
use Rattle.std.specs.Prelude.{List, ◌++◌, ℕ, ◌+◌, Float}
use Rattle.doubles.specs.Limits.{max_rows, max_tri_entries}
use Rattle.doubles.specs.Lists.{part, over}
use Rattle.sparse.specs.Scattered.{Sv}
use Rattle.lu_factor_rules.specs.Factor.{Factor, Matrix, matrix}
use Rattle.lu_factor_rules.specs.Transpose.{transpose}
use Rattle.lu_factor_rules.specs.Solves.{solve_in, solve_transp_in}

-- where the parts of the numbers end: the pivot order, the pivot number of each row, then starts and rows of L, of U and
-- of their transposes. Each begins where the one before it ends, the first at 0
abbrev pub order_end : ℕ
order_end = max_rows

abbrev pub number_end : ℕ
number_end = order_end + max_rows

abbrev pub lower_starts_end : ℕ
lower_starts_end = number_end + (max_rows + 1)

abbrev pub lower_rows_end : ℕ
lower_rows_end = lower_starts_end + max_tri_entries

abbrev pub upper_starts_end : ℕ
upper_starts_end = lower_rows_end + (max_rows + 1)

abbrev pub upper_rows_end : ℕ
upper_rows_end = upper_starts_end + max_tri_entries

abbrev pub lower_t_starts_end : ℕ
lower_t_starts_end = upper_rows_end + (max_rows + 1)

abbrev pub lower_t_rows_end : ℕ
lower_t_rows_end = lower_t_starts_end + max_tri_entries

abbrev pub upper_t_starts_end : ℕ
upper_t_starts_end = lower_t_rows_end + (max_rows + 1)

abbrev pub upper_t_rows_end : ℕ
upper_t_rows_end = upper_t_starts_end + max_tri_entries

-- and of the coefficients: L, U, their transposes, the diagonal
abbrev pub lower_coeffs_end : ℕ
lower_coeffs_end = max_tri_entries

abbrev pub upper_coeffs_end : ℕ
upper_coeffs_end = lower_coeffs_end + max_tri_entries

abbrev pub lower_t_coeffs_end : ℕ
lower_t_coeffs_end = upper_coeffs_end + max_tri_entries

abbrev pub upper_t_coeffs_end : ℕ
upper_t_coeffs_end = lower_t_coeffs_end + max_tri_entries

abbrev pub diag_end : ℕ
diag_end = upper_t_coeffs_end + max_rows

-- how many cells of each list there are
abbrev pub all_factor_numbers : ℕ
all_factor_numbers = upper_t_rows_end

abbrev pub all_factor_coeffs : ℕ
all_factor_coeffs = diag_end

-- ---- what is read: N are the numbers, D the coefficients
abbrev pub order_in : List ℕ → List ℕ
order_in N = part 0 order_end N

abbrev pub number_in : List ℕ → List ℕ
number_in N = part order_end number_end N

abbrev pub lower_in : List ℕ → List Float → Matrix
lower_in N D = matrix (part number_end lower_starts_end N) (part lower_starts_end lower_rows_end N) (part 0 lower_coeffs_end D)

abbrev pub upper_in : List ℕ → List Float → Matrix
upper_in N D =
    matrix (part lower_rows_end upper_starts_end N) (part upper_starts_end upper_rows_end N) (part lower_coeffs_end upper_coeffs_end D)

abbrev pub lower_t_in : List ℕ → List Float → Matrix
lower_t_in N D =
    matrix (part upper_rows_end lower_t_starts_end N) (part lower_t_starts_end lower_t_rows_end N)
    (part upper_coeffs_end lower_t_coeffs_end D)

abbrev pub upper_t_in : List ℕ → List Float → Matrix
upper_t_in N D =
    matrix (part lower_t_rows_end upper_t_starts_end N) (part upper_t_starts_end upper_t_rows_end N)
    (part lower_t_coeffs_end upper_t_coeffs_end D)

abbrev pub diag_in : List Float → List Float
diag_in D = part upper_t_coeffs_end diag_end D

-- the solves over m places
unfoldable pub packed_solve : ℕ → List ℕ → List Float → Sv → Sv
packed_solve m N D s = solve_in m (number_in N) (lower_in N D) (upper_in N D) (diag_in D) s

unfoldable pub packed_solve_transp : ℕ → List ℕ → List Float → Sv → Sv
packed_solve_transp m N D s = solve_transp_in m (order_in N) (upper_t_in N D) (lower_t_in N D) (diag_in D) s

-- ---- what is written: the factor and its transposes over the front, so that the cells behind never change
abbrev pub numbers_of : Factor → Matrix → Matrix → List ℕ
numbers_of f lt ut =
    f.order
    ++ (f.number
    ++ (f.lower.starts
    ++ (f.lower.rows
    ++ (f.upper.starts ++ (f.upper.rows ++ (lt.starts ++ (lt.rows ++ (ut.starts ++ ut.rows))))))))

abbrev pub coeffs_of : Factor → Matrix → Matrix → List Float
coeffs_of f lt ut = f.lower.vals ++ (f.upper.vals ++ (lt.vals ++ (ut.vals ++ f.diag)))

unfoldable pub packed_numbers : Factor → List ℕ → List ℕ
packed_numbers f N = over (numbers_of f (transpose f.size f.lower) (transpose f.size f.upper)) N

unfoldable pub packed_coeffs : Factor → List Float → List Float
packed_coeffs f D = over (coeffs_of f (transpose f.size f.lower) (transpose f.size f.upper)) D
